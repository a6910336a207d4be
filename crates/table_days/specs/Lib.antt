pub mod Lent
pub mod Part
