pub mod Places
pub mod Wholes
pub mod Tables
pub mod Adds
pub mod Ages
pub mod Rooms
pub mod Orders
