pub mod Faults
pub mod Grammar
pub mod Parts
pub mod Reading
pub mod Spelling
pub mod Driver
