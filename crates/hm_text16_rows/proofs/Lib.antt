pub mod Letters
pub mod Registers
