pub mod ParseLaws
