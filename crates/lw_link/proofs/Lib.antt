pub mod BodyLaws
pub mod FrameLaws
pub mod PlanLaws
pub mod CarryLaws
pub mod WayLaws
pub mod ShortLaws
