pub mod Placing
pub mod LoadSteps
pub mod ReadLaws
pub mod WriteLaws
