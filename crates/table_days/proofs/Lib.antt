pub mod Extracts
pub mod Laws
