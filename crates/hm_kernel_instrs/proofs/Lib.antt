pub mod Made
pub mod Exists
pub mod Widths
