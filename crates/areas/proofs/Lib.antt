pub mod SlotLaws
pub mod FormedLaws
pub mod OrderLaws
pub mod WalkLaws
pub mod FewAreas
pub mod ToldLaws
pub mod StartLaws
