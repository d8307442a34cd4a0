pub mod GapLaws
pub mod AloneLaws
