mod Walks
mod Ties
pub mod WriteLaws
