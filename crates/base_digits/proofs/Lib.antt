pub mod Digits
pub mod Std
mod DigitExamples
