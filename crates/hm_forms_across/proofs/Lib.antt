pub mod Added
pub mod Totals
pub mod LongTotals
pub mod Bests
