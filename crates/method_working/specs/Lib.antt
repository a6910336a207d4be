pub mod Working
pub mod Reasons
pub mod Sheet
pub mod Checks
