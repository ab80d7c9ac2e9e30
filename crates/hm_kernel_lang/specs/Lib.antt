pub mod Language
pub mod Machine
pub mod Code
pub mod Correct
pub mod Values
pub mod Texts
