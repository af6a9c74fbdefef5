pub mod Counts
pub mod Lists
pub mod Keeps
pub mod Steps
pub mod Ends
pub mod Rests
pub mod Turns
pub mod Closing
