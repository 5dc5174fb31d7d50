pub mod TrustedCalls
pub mod EntryFills
pub mod SharedMarks
pub mod EventCauses
