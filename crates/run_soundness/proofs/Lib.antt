pub mod RunLaws
pub mod SpareLaws
