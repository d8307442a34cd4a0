pub mod ConversationLaws
pub mod RepliesLaws
