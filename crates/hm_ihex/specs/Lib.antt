pub mod Records
pub mod Cells
pub mod Files
pub mod HexFile
pub mod Meant
pub mod Written
