pub mod Commands
pub mod Scripts
pub mod Films
pub mod Lines
pub mod Answers
