-- In reading order.
pub mod Choice
pub mod Ranges
pub mod Rows
pub mod Longest
pub mod RowCases
