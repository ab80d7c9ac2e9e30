pub mod Ticks
pub mod Exceptions
pub mod Best
