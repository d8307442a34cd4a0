-- In reading order.
pub mod Snapshot
pub mod Claims
