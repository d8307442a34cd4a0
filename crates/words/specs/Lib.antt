-- The one file.
pub mod Word
