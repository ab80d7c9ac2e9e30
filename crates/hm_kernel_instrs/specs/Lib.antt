pub mod Instructions
pub mod Ranges
