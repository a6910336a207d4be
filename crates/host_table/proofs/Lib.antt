pub mod Agreeing
pub mod Tests
