pub mod RunLaws
pub mod KeepingLaws
