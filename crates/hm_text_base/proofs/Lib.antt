pub mod Steps
pub mod SpanLaws
pub mod LineLaws
pub mod NumberSteps
pub mod NumberLaws
