pub mod AreaRewound
