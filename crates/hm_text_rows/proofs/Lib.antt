pub mod Words
pub mod Printed
pub mod Tails
pub mod Registers
pub mod Braces
pub mod Shown
pub mod Branches
