mod ApplyLaws
mod BothLaws
pub mod BoxLaws
pub mod CallLaws
mod ClaimLaws
mod CutLaws
mod KeepLaws
pub mod MoveLaws
pub mod NoEnds
mod PlanLaws
pub mod PostLaws
mod ReceiveLaws
pub mod SameBoxes
pub mod SendLaws
pub mod SoundLaws
pub mod TickLaws
