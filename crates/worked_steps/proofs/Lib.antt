pub mod PassedParts
