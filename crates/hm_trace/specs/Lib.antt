pub mod Stands
pub mod Marks
pub mod Progresses
pub mod Changes
pub mod Lines
pub mod Pages
pub mod Traces
