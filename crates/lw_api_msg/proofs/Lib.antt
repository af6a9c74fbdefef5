mod EndLaws
pub mod PlaceLaws
