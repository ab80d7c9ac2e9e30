pub mod Journals
pub mod Formats
pub mod Views
pub mod Outcomes
pub mod Runs
