-- In reading order.
pub mod FiledLaws
pub mod HostArchive
