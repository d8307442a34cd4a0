pub mod CallLaws
pub mod ActedLaws
pub mod StayLaws
pub mod BeforeLaws
