-- In reading order.
pub mod Known
pub mod Play
pub mod Replies
pub mod Join
pub mod Input
