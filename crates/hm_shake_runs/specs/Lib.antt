pub mod Draws
pub mod Heads
pub mod Stretches
pub mod Shaken
pub mod Kinds
pub mod Found
pub mod Runs
