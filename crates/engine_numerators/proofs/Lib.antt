pub mod Signed
pub mod Windows
pub mod Standing
pub mod Laws
