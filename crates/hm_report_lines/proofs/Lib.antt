pub mod Bytes
pub mod Ascii
