-- In reading order: "Turned back" by its examples, call 10, the value of a rewind, its cases, unmaps over gaps, kept frames.
pub mod TurnedBack
pub mod StillClean
pub mod PutBack
pub mod RewindCases
pub mod OverGaps
pub mod KeepsNothing
