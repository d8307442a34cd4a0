pub mod AreaRun
