pub mod Mnemonics
pub mod Rows
pub mod Targets
