pub mod Small
pub mod Settled
