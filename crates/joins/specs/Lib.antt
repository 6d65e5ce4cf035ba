pub mod Row
pub mod Code
pub mod Tables
pub mod Step
