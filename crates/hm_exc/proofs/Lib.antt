pub mod Psr
pub mod Words
pub mod Filled
pub mod Stacked
pub mod Writes
pub mod Compared
pub mod Listed
pub mod Sides
