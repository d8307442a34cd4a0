-- The one file.
pub mod Whole
