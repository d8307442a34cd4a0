pub mod SumLaws
pub mod WordLaws
pub mod OperatorLaws
pub mod TrailingLaws
