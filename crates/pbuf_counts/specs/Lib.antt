pub mod Owners
pub mod Rule
pub mod Plays
pub mod Holders
pub mod Answers
