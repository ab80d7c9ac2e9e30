pub mod Growing
pub mod Rows
pub mod Dense
pub mod Lawful
