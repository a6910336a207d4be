pub mod Ranks
pub mod ByRank
pub mod Leads
pub mod Checks
pub mod Reasons
