mod TableRuns
pub mod CaseLaws
