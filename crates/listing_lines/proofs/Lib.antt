pub mod Writing
pub mod Lines
pub mod Worked
mod Longest
pub mod Whole
