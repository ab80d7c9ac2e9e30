pub mod Operands
pub mod Names
pub mod Constants
pub mod Asked
