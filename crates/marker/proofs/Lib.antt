pub mod Counts
pub mod ScansOnce
pub mod Stacks
pub mod Passes
pub mod RunsInOrder
pub mod Absorptions
pub mod ChunksTaken
