pub mod Drawn
pub mod LoopTurn
