pub mod AreaLaws
pub mod FoundLaws
