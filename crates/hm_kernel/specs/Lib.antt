pub mod Shows
pub mod Standing
pub mod Theorem
pub mod Compiled
