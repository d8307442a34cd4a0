-- In reading order.
pub mod CaseLaws
pub mod BeforeLaws
