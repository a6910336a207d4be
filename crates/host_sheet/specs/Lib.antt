pub mod Sheets
pub mod Leads
