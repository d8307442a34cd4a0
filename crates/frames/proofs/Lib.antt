pub mod FrameLaws
pub mod PairLaws
pub mod Examples
