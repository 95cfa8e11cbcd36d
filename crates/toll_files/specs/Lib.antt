pub mod Faults
pub mod FileChanges
pub mod Locks
pub mod LogEnds
pub mod LogMarks
pub mod MarkBytes
pub mod OfficeFiles
