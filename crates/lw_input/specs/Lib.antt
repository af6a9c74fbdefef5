pub mod State
pub mod Datagrams
pub mod Arrivals
pub mod Input
pub mod PostPlans
