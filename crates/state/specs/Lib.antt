-- In reading order.
pub mod World
pub mod Start
pub mod Sound
pub mod Lengths
