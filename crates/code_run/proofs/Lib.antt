pub mod Sums
pub mod Answered
pub mod Calls
pub mod Finish
pub mod Fresh
pub mod OneWord
