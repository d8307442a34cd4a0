pub mod GreatestLaws
pub mod ComplementLaws
pub mod Examples
