pub mod Choosing
pub mod Answered
pub mod Exact
pub mod Store
pub mod Steps
pub mod Laws
pub mod Chain
