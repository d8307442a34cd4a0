-- The one file.
pub mod PageLines
