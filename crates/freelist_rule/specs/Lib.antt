pub mod Freelists
pub mod Segments
