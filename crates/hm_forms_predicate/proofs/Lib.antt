pub mod Predicates
pub mod Blocks
