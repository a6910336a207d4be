pub mod Calls
pub mod Rows
pub mod Demands
pub mod Entries
