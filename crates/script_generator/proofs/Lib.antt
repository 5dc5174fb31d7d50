pub mod Counting
pub mod OldTags
pub mod Validity
pub mod SeedDigits
