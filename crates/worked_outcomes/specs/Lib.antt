pub mod TrustedEntries
pub mod ConcurrentMarker
pub mod Compactions
pub mod NotDue
pub mod WorkedLaws
