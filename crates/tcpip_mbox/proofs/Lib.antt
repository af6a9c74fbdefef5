pub mod Counts
pub mod Letters
pub mod Keeps
pub mod Steps
pub mod Sharing
pub mod Puts
