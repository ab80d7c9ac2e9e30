pub mod LaneRows
pub mod Registers
pub mod NarrowingRows
pub mod Chains
pub mod Immediates
