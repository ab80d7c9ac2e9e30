pub mod Words
pub mod Forms
pub mod Asked
pub mod Lists
pub mod Fields
pub mod Rows
pub mod Unique
