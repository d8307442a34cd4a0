-- The one file.
pub mod ReadAhead
