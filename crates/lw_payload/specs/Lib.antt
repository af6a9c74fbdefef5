pub mod Views
pub mod Calls
pub mod Lists
pub mod Fake
pub mod FakeViews
pub mod Totals
