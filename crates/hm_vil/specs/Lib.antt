pub mod Inter
