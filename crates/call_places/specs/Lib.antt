pub mod Steps
pub mod Waits
pub mod Reads
pub mod Sends
pub mod Selects
pub mod Laws
