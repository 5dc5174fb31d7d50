pub mod WordLaws
pub mod Small
pub mod SegmentLaws
pub mod CoverLaws
pub mod ReadLaws
pub mod Kinds
pub mod Runs
