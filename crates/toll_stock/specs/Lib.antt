pub mod Common
pub mod LotRows
pub mod LotTotals
pub mod Plans
