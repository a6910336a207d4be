pub mod Padded
pub mod Held
pub mod Days
pub mod Judging
pub mod Looking
pub mod Enough
