pub mod Positions
pub mod Kept
pub mod Runs
pub mod Lists
pub mod Chunked
