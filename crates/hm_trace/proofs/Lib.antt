pub mod Texts
pub mod Standing
pub mod Traced
