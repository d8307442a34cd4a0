-- The one file.
pub mod AheadLaws
