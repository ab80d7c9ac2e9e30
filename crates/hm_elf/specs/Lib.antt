pub mod Elf
pub mod ReadImage
pub mod WriteImage
