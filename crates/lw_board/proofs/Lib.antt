pub mod Trails
pub mod Steps
