pub mod Holidays
pub mod Steps
