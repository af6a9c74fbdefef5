pub mod Endpoints
pub mod Sends
