mod StartLaws
pub mod TextLaws
mod UpgradeLaws
