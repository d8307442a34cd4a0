-- The one file.
pub mod GapLaws
