pub mod Content
