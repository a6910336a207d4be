pub mod ByPairs
pub mod Groups
pub mod Moves
pub mod Calendar
