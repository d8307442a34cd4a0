pub mod NumbersLaws
