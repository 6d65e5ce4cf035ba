pub mod Report
pub mod Survey
pub mod Stands
pub mod Correction
pub mod Kept
