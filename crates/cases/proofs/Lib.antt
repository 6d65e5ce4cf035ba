pub mod AllShown
pub mod Appended
pub mod Folded
pub mod Printed
