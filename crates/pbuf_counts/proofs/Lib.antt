mod Sums
mod Holdings
pub mod Keeps
pub mod Steps
pub mod Cuts
