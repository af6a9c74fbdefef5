pub mod Ends
pub mod Cutting
pub mod Lists
pub mod Owning
pub mod Rewriting
pub mod Sharing
pub mod Spans
