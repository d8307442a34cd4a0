-- In reading order: what a layout is made of, the layout, what it promises.
pub mod Rows
pub mod Layout
pub mod Claims
