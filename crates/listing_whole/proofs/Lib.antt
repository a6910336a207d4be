pub mod Holding
pub mod Whole
