pub mod TestLaws
pub mod Room
pub mod SandboxLaws
pub mod StateLaws
