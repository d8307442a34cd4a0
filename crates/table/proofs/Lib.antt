-- In reading order.
pub mod FiledLaws
pub mod StoreLaws
pub mod GroupLaws
pub mod FreeLaws
pub mod MoveLaws
pub mod TouchLaws
pub mod LeftLaws
pub mod StartLaws
pub mod PageLaws
pub mod Examples
