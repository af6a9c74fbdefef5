pub mod Additions
pub mod Workers
