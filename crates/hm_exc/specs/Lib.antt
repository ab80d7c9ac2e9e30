pub mod Frame
pub mod Entry
pub mod Written
pub mod Return
