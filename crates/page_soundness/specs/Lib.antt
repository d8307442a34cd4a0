-- The one file.
pub mod Entries
