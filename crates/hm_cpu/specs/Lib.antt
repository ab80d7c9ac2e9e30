pub mod Cpus
pub mod Services
pub mod Trials
