pub mod TakeTurns
