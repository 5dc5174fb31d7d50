pub mod NextFree
pub mod Freelists
pub mod Ranks
