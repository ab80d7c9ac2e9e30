pub mod Kinds
pub mod Forms
pub mod Steps
pub mod Texts
pub mod Fronts
pub mod Sources
pub mod Labels
pub mod Columns
