-- The one file.
pub mod InputLaws
