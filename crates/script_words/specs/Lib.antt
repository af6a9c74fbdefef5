pub mod Calls
pub mod Groups
pub mod Spelling
pub mod Values
pub mod Words
pub mod Writing
