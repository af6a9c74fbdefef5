pub mod Changes
pub mod Trail
pub mod History
pub mod Coded
pub mod Rule
pub mod Plays
pub mod Tokens
