pub mod Kinds
pub mod Numbers
pub mod Ends
pub mod Texts
pub mod Repeats
pub mod Shorter
pub mod Findings
pub mod Counts
