-- In reading order: a start and a call over bytes, and what a host gets.
pub mod Calls
pub mod HostClaims
