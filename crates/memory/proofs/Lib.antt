pub mod SpareLaws
pub mod RewindRuns
pub mod MemoryLaws
pub mod ValueLaws
