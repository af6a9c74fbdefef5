pub mod Way
pub mod Plans
pub mod Sound
