pub mod Accesses
pub mod Inits
