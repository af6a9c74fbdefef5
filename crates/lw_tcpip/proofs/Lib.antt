pub mod Lists
pub mod Served
pub mod LineSteps
pub mod Views
pub mod Seats
pub mod Opening
pub mod Asked
pub mod Turning
