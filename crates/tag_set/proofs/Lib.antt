pub mod StrippedWords
pub mod TagList
