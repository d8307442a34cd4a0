-- The one file of laws.
pub mod AheadLaws
