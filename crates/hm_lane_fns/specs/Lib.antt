pub mod LaneFns
pub mod Words
pub mod Registers
