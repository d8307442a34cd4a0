pub mod ReuseLaws
