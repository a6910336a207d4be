pub mod Lists
pub mod Ascii
