pub mod DaysAsked
pub mod Files
