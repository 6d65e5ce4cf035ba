pub mod Keeping
pub mod Corrected
pub mod Remeasured
