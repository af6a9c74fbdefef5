pub mod Texts
pub mod Upgrades
