pub mod Steps
pub mod Room
