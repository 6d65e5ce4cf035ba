pub mod Sweeps
pub mod Squares
pub mod Kept
pub mod MarkTurns
