pub mod Meets
pub mod Run
