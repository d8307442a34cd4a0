pub mod Spare
pub mod Test
pub mod Gather
