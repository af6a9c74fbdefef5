pub mod Connections
pub mod Descriptors
pub mod Signals
pub mod Variables
