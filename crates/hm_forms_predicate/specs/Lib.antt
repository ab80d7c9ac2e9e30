pub mod Forms
pub mod Predicates
pub mod Blocks
