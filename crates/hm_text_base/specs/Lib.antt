pub mod Texts
pub mod Reading
pub mod Marks
pub mod Spans
pub mod Numbers
