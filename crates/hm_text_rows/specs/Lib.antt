pub mod Shapes
pub mod Labels
pub mod Operands
pub mod Mnemonics
pub mod Names
