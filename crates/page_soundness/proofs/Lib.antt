pub mod GapLaws
pub mod SplitLaws
