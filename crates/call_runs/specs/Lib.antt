pub mod Goes
pub mod Runs
