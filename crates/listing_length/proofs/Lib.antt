mod Near
mod Texts
pub mod Most
