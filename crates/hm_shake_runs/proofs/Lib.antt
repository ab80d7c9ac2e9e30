pub mod Words
pub mod Room
pub mod Turns
pub mod Counting
pub mod Letters
pub mod Cutting
pub mod Wholes
pub mod Lawful
