-- In reading order.
pub mod RewindLaws
pub mod RunLaws
pub mod LeftLaws
