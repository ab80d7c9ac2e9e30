pub mod FirstPass
pub mod SecondPass
pub mod Segments
pub mod Sources
pub mod Making
pub mod Refusals
pub mod Ready
