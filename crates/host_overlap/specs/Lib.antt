pub mod Overlap
pub mod Laws
pub mod Steps
pub mod Checks
