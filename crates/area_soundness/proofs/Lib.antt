-- The one file.
pub mod PlaceLaws
