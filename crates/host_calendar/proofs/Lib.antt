pub mod Checks
pub mod Ways
