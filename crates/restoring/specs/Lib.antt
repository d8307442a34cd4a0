pub mod Backed
pub mod Changed
pub mod Restored
