-- Definitions and lemmas that several proofs here use.
pub use Rattle.std.proofs.lemmas.List.{append-nil}
pub use Rattle.std.specs.Global.{Vec}
pub use Rattle.std.specs.List.{list_any}
pub use Rattle.toll_base.specs.Bytes.{Bytes}
pub use Rattle.toll_desk.specs.Common.{PlantCmd}
pub use Rattle.toll_desk.specs.declared.plant_cmd.PlantReply.{PlantReply}
pub use Rattle.toll_keep.specs.Content.{Content}
pub use Rattle.toll_keep.specs.Meaning.{Meaning}
pub use Rattle.toll_plant.specs.Common.{History}
pub use Rattle.toll_plant.specs.Imports.{AreNumberedFrom, commands_in, outcomes_in}
pub use Rattle.toll_plant.specs.Outcomes.{is_fault_outcome, record_outcome}
pub use Rattle.toll_plant.specs.ImportStates.{HasActed, ImportState}
pub use Rattle.toll_plant.specs.declared.grouping.TheConstants.{GROUP_RECORDS}
pub use Rattle.toll_plant.specs.declared.outcome.Outcome.{Outcome}
pub use Rattle.toll_plant.specs.declared.report.ImportLine.{ImportLine}
pub use Rattle.toll_programs.specs.Outputs.{IsImportPrintout, Printout}
pub use Rattle.toll_protocol.specs.PlantMessages.{IsCall}
pub use Rattle.toll_server.specs.Runs.{AreOwn, Input, IsOwnInput, IsWholeRun, Request, Task, Tasks, Turn, Yields, after_turn}
pub use Rattle.toll_server.specs.declared.listener.Listener.{Listener}
pub use Rattle.toll_server.specs.declared.listener.Listener.TheVariants.{Owners, Plant}
pub use Rattle.toll_server.specs.declared.poll.Poll.{Poll}
pub use Rattle.toll_server.specs.declared.poll.Poll.TheVariants.{Pending, Ready}
pub use Rattle.toll_wire.specs.OfficeRuns.{AreServed}
pub use Rattle.toll_wire.specs.Steps.{IsAnswered}
pub use Rattle.toll_wire.specs.declared.event.Answer.{Answer}
pub use Rattle.toll_wire.specs.declared.event.Event.{Event}
