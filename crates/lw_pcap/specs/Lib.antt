pub mod Faults
pub mod Header
pub mod Records
pub mod Capture
