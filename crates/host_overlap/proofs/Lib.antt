pub mod Laws
pub mod Ways
pub mod Least
pub mod Checks
