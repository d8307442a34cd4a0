-- In reading order: the archive over bytes, and what a host gets.
pub mod Filed
pub mod HostArchive
