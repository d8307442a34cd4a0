-- In reading order.
pub mod PutLaws
