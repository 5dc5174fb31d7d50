pub mod CutHands
