pub mod Windows
pub mod Laws
