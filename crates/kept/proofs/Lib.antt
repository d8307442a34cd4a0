pub mod SpareLaws
pub mod GrantLaws
pub mod RewindLaws
pub mod WriteLaws
pub mod TestLaws
pub mod StoreRuns
pub mod AdoptLaws
pub mod GatherLaws
