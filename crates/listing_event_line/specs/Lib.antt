pub mod Carried
pub mod Room
