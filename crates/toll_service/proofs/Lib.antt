pub mod Common
pub mod ImportRuns
pub mod EventLemmas
pub mod WholeLemmas
pub mod RequestLemmas
pub mod PlantTurns
pub mod SessionLemmas
pub mod DamageLemmas
