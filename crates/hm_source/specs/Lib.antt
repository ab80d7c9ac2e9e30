pub mod Directives
pub mod Statements
pub mod Places
pub mod Lines
pub mod Unread
pub mod Shown
