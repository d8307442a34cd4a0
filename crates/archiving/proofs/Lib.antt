-- In reading order.
pub mod RollLaws
pub mod ArchivedLaws
