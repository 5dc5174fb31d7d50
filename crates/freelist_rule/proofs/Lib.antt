pub mod FoundFreelists
pub mod FreelistLoads
pub mod IndexTakes
pub mod HeadTakes
pub mod EntryLinks
pub mod SegmentCommits
