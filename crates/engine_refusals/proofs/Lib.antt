pub mod FirstRefusal
pub mod Replies
