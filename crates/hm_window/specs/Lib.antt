pub mod Positions
pub mod Overlap
