-- In reading order: the theorems last.
pub mod TurnedBackLaws
pub mod BacksLaws
pub mod StillCleanLaws
pub mod PutBackLaws
pub mod RewindCaseLaws
pub mod OverGapsLaws
pub mod KeepsNothingLaws
pub mod Claims
