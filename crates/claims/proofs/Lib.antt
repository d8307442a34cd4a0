-- In reading order: the theorems last.
pub mod TouchSteps
pub mod TouchRuns
pub mod TouchesLaws
pub mod Demand1Laws
pub mod Runs
pub mod Demand3Laws
pub mod Claims
