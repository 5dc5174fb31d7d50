pub mod Left
pub mod Thieves
