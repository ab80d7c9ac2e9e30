pub mod Host
pub mod Files
pub mod MemHost
pub mod OsHost
pub mod Calls
