pub mod Relevance
pub mod Reaching
