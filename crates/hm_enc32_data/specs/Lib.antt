pub mod DataRows
