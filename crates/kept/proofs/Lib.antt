pub mod SameNumbers
