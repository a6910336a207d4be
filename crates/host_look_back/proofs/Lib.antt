pub mod Ranking
pub mod Windows
pub mod Ways
