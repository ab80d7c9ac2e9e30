pub mod Images
pub mod Work
pub mod Run
pub mod Commands
pub mod RunInputs
