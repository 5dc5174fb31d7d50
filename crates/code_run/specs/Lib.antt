pub mod Calls
pub mod Runs
pub mod Workers
pub mod Answers
