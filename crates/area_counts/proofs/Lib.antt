-- In reading order.
pub mod CountedLaws
pub mod MappedLaws
