pub mod SmallLaws
pub mod PlayLaws
pub mod RepliesLaws
pub mod JoinLaws
pub mod KnownLaws
