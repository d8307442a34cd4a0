pub mod CaseLaws
pub mod TestLaws
pub mod RangeLaws
pub mod LoopLaws
pub mod CountLaws
pub mod ListLaws
pub mod RowLaws
pub mod LongestLaws
