pub mod Forms
pub mod Registers
