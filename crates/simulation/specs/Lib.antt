-- In reading order: what lists of calls are over, and what the proofs carry along a list.
pub mod Lent
pub mod Agrees
