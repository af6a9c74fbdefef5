pub mod Datagrams
pub mod Table
pub mod Opens
pub mod Fragments
