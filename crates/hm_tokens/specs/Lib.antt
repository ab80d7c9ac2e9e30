pub mod Marks
pub mod Tokens
pub mod Lines
pub mod Names
pub mod Steps
pub mod Texts
pub mod Ranges
