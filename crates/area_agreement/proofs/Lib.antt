pub mod UnchangedLaws
