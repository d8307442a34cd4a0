-- In reading order: the machine, the starred cases, the table of refusals, the table of call 10, the table of unmaps over gaps, the table of kept runs.
pub mod Machine
pub mod Cases
pub mod TurnedBack
pub mod StillClean
pub mod OverGaps
pub mod KeptRuns
pub mod PutBack
