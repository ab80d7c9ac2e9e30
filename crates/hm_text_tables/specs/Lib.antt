pub mod Labels
pub mod Tables
pub mod Texts
pub mod Refusals
pub mod Named
