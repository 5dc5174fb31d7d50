pub mod Causes
pub mod Fills
pub mod Shares
