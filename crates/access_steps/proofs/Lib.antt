pub mod LookReads
pub mod Writes
pub mod FieldAccesses
pub mod NewBindings
pub mod EventAnswers
