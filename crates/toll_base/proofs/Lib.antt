pub mod Common
pub mod Bools
pub mod Digits
pub mod KeyOrder
pub mod PlacedRows
pub mod MovePlaces
pub mod Texts
pub mod PutRules
pub mod ActualCountLemmas
pub mod SliceFits
pub mod PutTables
pub mod RowKinds
mod Fronts
