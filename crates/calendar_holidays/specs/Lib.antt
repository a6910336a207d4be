pub mod Yearly
pub mod Steps
