pub mod Areas
pub mod Segments
pub mod Takes
pub mod Tickets
