pub mod Called
pub mod ScanParts
