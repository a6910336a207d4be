pub mod Calendar
pub mod Checks
