-- In reading order: what is claimed, and what an accepted call touches.
pub mod Demands
pub mod Touches
