pub mod PerformedLaws
pub mod PrintsLaws
