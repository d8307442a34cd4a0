-- In reading order.
pub mod FieldTextLaws
