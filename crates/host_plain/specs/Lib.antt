pub mod Plain
pub mod Checks
