pub mod Faults
pub mod Files
pub mod Sinks
pub mod Steps
pub mod Shelf
pub mod OnShelf
