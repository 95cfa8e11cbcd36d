-- Definitions of other crates that several files here use.
pub use Rattle.toll_base.specs.Bytes.{Bytes}
pub use Rattle.toll_desk.specs.Common.{PlantCmd}
pub use Rattle.toll_keep.specs.Meaning.{Meaning}
pub use Rattle.toll_plant.specs.Imports.{AreNumberedFrom, commands_in, outcomes_in}
pub use Rattle.toll_plant.specs.ImportStates.{ImportState, IsBegun, IsResumed}
pub use Rattle.toll_plant.specs.declared.import_fault.ImportFault.{ImportFault}
pub use Rattle.toll_plant.specs.declared.report.ImportReport.{ImportReport}
pub use Rattle.toll_programs.specs.Statuses.{exit_code}
pub use Rattle.toll_programs.specs.Outputs.{IsImportPrintout, IsReplyPrintout, Printout}
pub use Rattle.toll_programs.specs.declared.status.Status.TheVariants.{Failed, Usage}
pub use Rattle.toll_protocol.specs.PlantMessages.{IsCall, IsResponse}
pub use Rattle.toll_server.specs.Runs.{AreOwn, Input, Request, TakesTurns, Task, Tasks, Turn, after_turns, no_tasks}
pub use Rattle.toll_server.specs.declared.listener.Listener.{Listener}
pub use Rattle.toll_server.specs.declared.listener.Listener.TheVariants.{Owners, Plant}
pub use Rattle.toll_server.specs.declared.poll.Poll.{Poll}
pub use Rattle.toll_server.specs.declared.poll.Poll.TheVariants.{Pending, Ready}
pub use Rattle.toll_wire.specs.OutTexts.{out_bytes}
pub use Rattle.toll_wire.specs.declared.event.Answer.{Answer}
pub use Rattle.toll_wire.specs.declared.event.Event.{Event}
