pub mod WordLaws
pub mod Ticks
pub mod TickSteps
pub mod TickLaws
pub mod LineSteps
pub mod FileLaws
pub mod PrintLaws
