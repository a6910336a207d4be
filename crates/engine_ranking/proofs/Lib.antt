pub mod Rank
pub mod Sorting
pub mod Insertion
pub mod Numbers
pub mod Carry
pub mod OneByOne
