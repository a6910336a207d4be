pub mod Days
pub mod Checks
