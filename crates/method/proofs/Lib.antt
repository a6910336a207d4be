pub mod Checks
pub mod Histories
pub mod AnotherOrder
pub mod Tables
pub mod Ruler
pub mod Replies
pub mod Asked
