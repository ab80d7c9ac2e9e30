pub mod Bytes
pub mod Instructions
