pub mod ShapeEvents
pub mod CallRows
pub mod HistoryEvents
pub mod LinkedObjects
pub mod LinksInOrder
