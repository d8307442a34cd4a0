-- In reading order.
pub mod PartLaws
pub mod BeforeLaws
pub mod RepackLaws
