-- The one file.
pub mod Numbers
