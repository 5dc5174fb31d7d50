pub mod SeenWords
pub mod MarkTurns
pub mod MarkParts
pub mod SharedMarks
pub mod EvacuationTurns
pub mod EvacuationParts
pub mod EvacuationWays
