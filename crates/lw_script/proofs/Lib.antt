pub mod GrammarLaws
pub mod Pieces
pub mod ReaderLaws
pub mod Scanning
pub mod Spellings
