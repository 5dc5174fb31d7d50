pub mod Entry
pub mod Layout
pub mod Image
pub mod Fresh
