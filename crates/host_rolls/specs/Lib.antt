-- In reading order.
pub mod FromStart
pub mod Left
pub mod Promised
