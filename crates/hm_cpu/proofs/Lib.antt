pub mod Services
pub mod Steps
pub mod Youngers
pub mod Keeping
pub mod OneStep
pub mod Nestings
pub mod Trials
pub mod Going
