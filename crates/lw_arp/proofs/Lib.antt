pub mod ListLaws
pub mod RoomLaws
pub mod EntryLaws
pub mod TableLaws
pub mod TickLaws
pub mod MapLaws
pub mod BalanceLaws
pub mod LookupLaws
