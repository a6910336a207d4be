pub mod Telling
pub mod Refused
