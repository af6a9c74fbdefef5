pub mod FrameLaws
pub mod InputLaws
