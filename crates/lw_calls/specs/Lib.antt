pub mod Answers
pub mod Uses
pub mod Replies
pub mod Rounds
pub mod Machine
pub mod Fits
pub mod Laws
