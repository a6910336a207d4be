pub mod Names
pub mod Telling
