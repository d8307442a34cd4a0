-- In reading order.
pub mod Numbers
pub mod Answers
pub mod Requests
pub mod Slots
pub mod Limits
pub mod Outcome
pub mod Refusals
pub mod Settled
pub mod Accepted
pub mod Examples
pub mod Edges
pub mod ArchiveRows
