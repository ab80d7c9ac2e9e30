pub mod Segments
pub mod Images
