pub mod RepliesLaws
pub mod LeftBehind
pub mod PromisedLaws
