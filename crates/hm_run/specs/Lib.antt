pub mod Stops
pub mod Program
pub mod Timed
pub mod Ready
pub mod Bare
pub mod Report
pub mod InOrder
pub mod Headline
