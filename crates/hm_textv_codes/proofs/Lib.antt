pub mod Told
pub mod Fields
pub mod Endings
pub mod Forms
pub mod Addresses
pub mod Constants
pub mod Rows
pub mod Unique
