pub mod Trees
pub mod Words
pub mod Written
pub mod ReadTree
pub mod ReadLine
pub mod ReadFile
pub mod Shapes
pub mod Held
