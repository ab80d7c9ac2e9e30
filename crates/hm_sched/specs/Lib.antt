pub mod Words
pub mod Schedule
pub mod Held
pub mod Written
pub mod ReadLine
pub mod ReadFile
pub mod Printed
