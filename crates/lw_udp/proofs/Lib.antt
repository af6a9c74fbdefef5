pub mod ListLaws
pub mod ClaimLaws
pub mod LiveLaws
pub mod TurnLaws
