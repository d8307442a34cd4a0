-- The one file of laws.
pub mod WriteLaws
