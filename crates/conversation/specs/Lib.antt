-- In reading order.
pub mod Conversation
pub mod Replies
