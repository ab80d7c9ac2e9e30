pub mod Laws
pub mod Fits
pub mod ByCode
pub mod Parsing
