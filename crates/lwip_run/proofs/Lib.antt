pub mod HistoryLaws
mod InputLemmas
pub mod Feeding
pub mod PlainCore
pub mod OneThread
pub mod Fronts
pub mod Forms
pub mod AtHome
pub mod SerialFiles
pub mod Clauses
