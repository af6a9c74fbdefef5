pub mod HeaderLaws
pub mod RecordLaws
pub mod CaptureLaws
pub mod Examples
