pub mod Calls
pub mod Effect
pub mod Headline
