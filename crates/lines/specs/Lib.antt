-- The one file.
pub mod Lines
