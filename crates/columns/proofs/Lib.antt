pub mod PrintLaws
pub mod FieldLaws
pub mod ReadLaws
pub mod Examples
