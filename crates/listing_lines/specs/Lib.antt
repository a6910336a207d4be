pub mod Lines
pub mod Listing
pub mod WriteSteps
pub mod Worked
pub mod Edges
