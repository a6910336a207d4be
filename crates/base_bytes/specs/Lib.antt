pub mod Bytes
pub mod PutFirst
