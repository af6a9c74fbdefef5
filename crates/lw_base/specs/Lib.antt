pub mod Errors
pub mod EventWord
