pub mod Cuts
pub mod Markings
pub mod Phases
pub mod Sessions
pub mod Workers
