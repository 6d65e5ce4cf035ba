pub mod Setting
pub mod Readback
pub mod Stands
pub mod Fair
pub mod Named
