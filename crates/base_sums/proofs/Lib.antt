pub mod Folded
pub mod Exact
