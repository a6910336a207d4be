pub mod FirstRefusal
pub mod Laws
