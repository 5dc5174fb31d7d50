pub mod Chain
pub mod Rank
