pub mod RowLaws
pub mod PlainLaws
pub mod HomeLaws
pub mod ListLaws
pub mod TotalLaws
pub mod CountLaws
pub mod FakeLaws
pub mod PoolLaws
