pub mod Filed
pub mod Page
pub mod Run
pub mod Sketch
pub mod Printed
pub mod Entries
