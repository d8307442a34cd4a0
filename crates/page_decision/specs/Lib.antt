-- What is decided, and behind which rows.
pub mod Decision
pub mod Earlier
