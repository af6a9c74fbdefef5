pub mod Held
pub mod Requests
pub mod Laws
