pub mod Weight
pub mod Nearest
pub mod Quotient
