pub mod Steady
pub mod Pauses
pub mod Stored
pub mod Causes
pub mod Laws
