-- The one file.
pub mod Counts
