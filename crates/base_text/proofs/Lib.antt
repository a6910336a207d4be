pub mod Putting
pub mod Pieces
mod TextExamples
pub mod Copying
