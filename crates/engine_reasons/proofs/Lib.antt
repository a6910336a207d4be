pub mod Held
pub mod Reasons
pub mod Sums
