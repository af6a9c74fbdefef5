pub mod Chains
pub mod Shares
pub mod Takes
pub mod Makes
pub mod Homes
