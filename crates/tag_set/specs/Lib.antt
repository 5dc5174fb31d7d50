pub mod Tag
pub mod Range
pub mod Strip
