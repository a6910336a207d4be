pub mod Layout
pub mod Reader
pub mod Laws
pub mod Writer
pub mod WriterLaws
pub mod WriterChecks
pub mod Checks
pub mod Steps
