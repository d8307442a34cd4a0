-- In reading order.
pub mod TextLaws
pub mod Claims
