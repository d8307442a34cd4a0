-- In reading order: lists of requests, what is claimed, the value of a rewind, the machine that keeps nothing.
pub mod Lists
pub mod Claims
pub mod PutBack
pub mod KeepsNothing
