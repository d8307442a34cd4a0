pub mod SlotLaws
pub mod TableLaws
pub mod KindLaws
pub mod AcceptedLaws
pub mod ChargeLaws
pub mod RowLaws
pub mod EdgeLaws
