pub mod RowLaws
-- In reading order.
pub mod IsSnapshot
pub mod SegmentLaws
pub mod TakenLaws
pub mod RunLaws
pub mod MapLaws
pub mod WriteLaws
pub mod ProtectLaws
pub mod OrderLaws
pub mod Replay
pub mod TextLaws
