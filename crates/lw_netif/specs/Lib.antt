pub mod Frames
pub mod Hosts
pub mod Route
