-- The one file.
pub mod Frames
