pub mod Names
pub mod Asking
pub mod Writing
pub mod Shaking
