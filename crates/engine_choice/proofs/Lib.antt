pub mod Five
pub mod Followed
pub mod Requested
pub mod WholeChoice
pub mod Rooms
