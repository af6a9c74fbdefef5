pub mod GoesLaws
pub mod RunsLaws
