pub mod Only
pub mod Laying
pub mod LoopTurns
