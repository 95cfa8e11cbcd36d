pub mod Common
pub mod ClapLemmas
pub mod WordLemmas
pub mod ReadLemmas
pub mod TableLemmas
pub mod LimitLemmas
pub mod FieldLemmas
pub mod FaultEnds
mod GroupRuns
mod Holding
mod GroupMade
pub mod GroupChains
mod ImportDone
mod FileFaults
pub mod ActualLemmas
pub mod FileLemmas
pub mod ReaderLemmas
pub mod LineLemmas
pub mod ColumnLemmas
pub mod KeyLemmas
pub mod StandingLemmas
