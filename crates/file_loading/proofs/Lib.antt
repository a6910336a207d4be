pub mod Loading
pub mod Buffers
