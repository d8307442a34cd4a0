pub mod ChangedLaws
pub mod BackedLaws
