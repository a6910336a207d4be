pub mod Rooms
pub mod Puts
pub mod Laws
