pub mod Common
pub mod LotOrder
pub mod Mapped
pub mod MaterialLaw
pub mod ReceiptLaw
pub mod SplitLaw
pub mod WithdrawalLaw
pub mod TestLaw
pub mod LotLaw
pub mod ResultLaw
pub mod OnHand
pub mod Sums
pub mod OnHandTotals
pub mod ShippedTotals
pub mod TotalsLaw
pub mod Withdrawn
mod ShippedLots
