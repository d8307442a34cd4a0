pub mod PartLaws
pub mod ListedLaws
pub mod Examples
pub mod SameLaws
