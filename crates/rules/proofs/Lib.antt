pub mod FitLaws
pub mod PackedLaws
