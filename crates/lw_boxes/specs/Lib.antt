pub mod Lists
pub mod Shelf
