pub mod Adding
pub mod Counted
pub mod Lines
pub mod Made
pub mod Overs
