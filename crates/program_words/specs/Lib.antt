pub mod Words
pub mod Edges
