pub mod Moving
pub mod Keeping
pub mod Best
pub mod Sums
pub mod MarkTurns
pub mod States
