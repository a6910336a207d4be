pub mod Rooms
pub mod Agree
pub mod Steps
