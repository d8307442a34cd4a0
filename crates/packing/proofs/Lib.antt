pub mod PushLaws
pub mod RunLaws
pub mod PackLaws
pub mod KeptLaws
pub mod ChangeLaws
pub mod Examples
