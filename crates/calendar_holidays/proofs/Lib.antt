pub mod EasterSum
pub mod EasterTable
pub mod Holidays
pub mod Laws
