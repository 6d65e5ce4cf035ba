pub mod Totals
pub mod Passes
pub mod Written
