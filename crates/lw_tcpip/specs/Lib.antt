pub mod Results
pub mod Tasks
pub mod Replies
pub mod Tokens
