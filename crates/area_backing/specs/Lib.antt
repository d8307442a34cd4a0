-- The one file.
pub mod Reach
