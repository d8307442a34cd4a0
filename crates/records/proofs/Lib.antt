pub mod SettledLaws
pub mod ImageLaws
