pub mod RowLaws
pub mod RowLoops
pub mod PartsLaws
pub mod LengthLaws
pub mod MarksLaws
pub mod LayoutLaws
pub mod Claims
