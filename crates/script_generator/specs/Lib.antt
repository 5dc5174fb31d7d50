pub mod Generated
pub mod Seed
