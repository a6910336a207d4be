pub mod Places
pub mod Leads
