pub mod HeldDay
pub mod Steps
pub mod Checks
