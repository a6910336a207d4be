pub mod Engine
pub mod Store
pub mod Steps
