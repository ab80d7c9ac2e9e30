pub mod Bytes
pub mod Standing
pub mod Made
