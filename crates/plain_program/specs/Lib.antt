pub mod KeptFields
pub mod Entries
pub mod Rounds
pub mod Kept
pub mod KeptSwept
pub mod Steps
pub mod Named
