pub mod Plain
pub mod Parts
pub mod Reading
pub mod Serial
pub mod Answers
pub mod Comes
