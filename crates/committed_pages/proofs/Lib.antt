pub mod RestLaws
pub mod AreaLaws
pub mod BackedLaws
