pub mod Bits
pub mod LaneLists
pub mod Ends
