-- The one file.
pub mod Parts
