pub mod NamedLaws
pub mod MarkLaws
pub mod EntryLaws
pub mod Examples
