pub mod CallLaws
pub mod HostClaims
