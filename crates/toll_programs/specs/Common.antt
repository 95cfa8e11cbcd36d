-- Definitions of other crates that several files here use.
pub use Rattle.std.specs.Io.KnownBytes.{Appends, Consumes, IsAtEnd}
pub use Rattle.std.specs.List.{AllByRecursion, join_with_byte, list_any, slice_split, starts_with}
pub use Rattle.std.specs.Str.{bytes_eq, is_utf8}
pub use Rattle.toll_base.specs.Bytes.{Bytes}
pub use Rattle.toll_desk.specs.Common.{PlantCmd}
pub use Rattle.toll_desk.specs.declared.plant_cmd.PlantReply.{PlantReply}
pub use Rattle.toll_keep.specs.Meaning.{Meaning}
pub use Rattle.toll_plant.specs.declared.import_fault.ImportFault.{ImportFault}
pub use Rattle.toll_plant.specs.declared.import_fault.ImportFault.TheVariants.{BadHeader, Memory, TooLong}
pub use Rattle.toll_plant.specs.declared.report.ImportReport.{ImportReport}
pub use Rattle.toll_protocol.specs.Streams.{HasFailed, NoneFailed}
pub use Rattle.toll_wire.specs.declared.event.Answer.{Answer}
pub use Rattle.toll_wire.specs.declared.event.Event.{Event}
