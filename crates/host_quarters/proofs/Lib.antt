pub mod Picking
pub mod Numerators
pub mod Ways
