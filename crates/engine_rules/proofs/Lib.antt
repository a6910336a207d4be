pub mod Sizes
pub mod Followed
