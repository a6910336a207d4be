pub mod Days
pub mod Steps
