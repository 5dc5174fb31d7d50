pub mod ObjectCalls
pub mod LinkCalls
pub mod NewCalls
