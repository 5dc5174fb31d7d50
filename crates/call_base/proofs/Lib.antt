pub mod CallsInOrder
pub mod OneEvent
pub mod HeldVariables
pub mod ScanParts
pub mod HistoriesStay
pub mod PassedParts
