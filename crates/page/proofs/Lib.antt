pub mod Lines
pub mod Book
pub mod Entries
pub mod Sketched
pub mod Filed
pub mod Fits
pub mod SketchFits
pub mod Memorandum
