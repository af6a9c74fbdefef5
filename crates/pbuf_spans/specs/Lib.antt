pub mod Parts
pub mod Spans
pub mod Windows
pub mod Cuts
pub mod Shares
