pub mod Link
pub mod Ends
pub mod Sketch
pub mod Steps
pub mod Shape
pub mod Stage
