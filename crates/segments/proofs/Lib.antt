-- In reading order.
pub mod ByAreasLaws
pub mod AreaLaws
pub mod ByPagesLaws
