pub mod Weighing
pub mod Rounding
pub mod Quotients
pub mod Doublings
