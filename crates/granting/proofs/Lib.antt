pub mod GrantingLaws
