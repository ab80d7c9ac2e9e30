pub mod Halves
pub mod Decodings
pub mod Places
pub mod Kept
