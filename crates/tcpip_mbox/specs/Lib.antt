pub mod Letters
pub mod Views
pub mod Rule
pub mod Tokens
