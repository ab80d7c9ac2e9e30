pub mod Operands
pub mod Names
pub mod Asked
