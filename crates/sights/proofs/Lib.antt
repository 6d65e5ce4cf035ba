pub mod Halves
pub mod Leading
pub mod Filling
pub mod Rowing
pub mod Counting
pub mod Fresh
