pub mod Ends
pub mod Delivery
pub mod Ports
pub mod Laws
