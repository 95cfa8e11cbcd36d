-- Words of other crates that several definitions here are said in.
pub use Rattle.std.specs.Global.{Global}
pub use Rattle.toll_answers.specs.PlantAnswers.{IsPlantAnswer, IsValidCommand, IsVerdictOr, Judged, PlantAnswer, Shows, after_plant, recorded_command, concerned}
pub use Rattle.toll_answers.specs.declared.plant_cmd.PlantCmd.{PlantCmd}
pub use Rattle.toll_answers.specs.Recall.{IsRecall, recall_line_of}
pub use Rattle.toll_answers.specs.Replies.{IsOwnerAnswer, IsLotOr, IsOrderOr, IsReply, IsTraceOr, IsWritingReply, after_answer, after_reply, has_owner_key}
pub use Rattle.toll_answers.specs.OwnerReply.{ReplyBatch, ReplyForbidden, ReplyLot, ReplyOrder, ReplyOrders, ReplyRefused, ReplyStock, ReplyTrace, OwnerReply}
pub use Rattle.toll_answers.specs.declared.genealogy.recall.RecallLine.{RecallLine}
pub use Rattle.toll_base.specs.Bytes.{Bytes, bytes_cmp, same_bytes}
pub use Rattle.toll_base.specs.Slice.{Slice, order_at}
pub use Rattle.toll_base.specs.Values.{house_name}
pub use Rattle.toll_base.specs.Words.{is_some_where, where_so}
pub use Rattle.toll_base.specs.declared.decision.Change.{Change}
pub use Rattle.toll_base.specs.declared.decision.Decision.{Decision}
pub use Rattle.toll_base.specs.declared.lot.Disposition.{Disposition}
pub use Rattle.toll_base.specs.declared.lot.LotId.{LotId}
pub use Rattle.toll_base.specs.declared.refusal.Refusal.{Refusal}
pub use Rattle.toll_base.specs.declared.request.Request.{Request}
pub use Rattle.toll_history.specs.Command.{Action, AddOwner, AddUnit, Command, OpenBatch, Record, Reject, Release, Require, Void, by}
pub use Rattle.toll_history.specs.History.{History, acts, owner_known}
pub use Rattle.toll_history.specs.OwnerFacts.{IsRowsOf, lot_row, sublot_row}
pub use Rattle.toll_history.specs.Verdict.{Accepted, Checks, IsLawful, Refused, Repeated, Verdict, grow, is_actual, verdict}
pub use Rattle.toll_keep.specs.Content.{Content, ContentKeepsRules, AllChangesFit, content_after, slice_of}
pub use Rattle.toll_keep.specs.CallEffects.{CallEffect, IsReading, IsSpared, Settles}
pub use Rattle.toll_keep.specs.Meaning.{Meaning, OverContent}
pub use Rattle.toll_keep.specs.Reads.{HaveRead}
pub use Rattle.toll_keep.specs.declared.keep_fault.KeepFault.{KeepFault}
pub use Rattle.toll_keep.specs.declared.keep_fault.KeepFault.TheVariants.{Damaged, Memory}
pub use Rattle.toll_trace.specs.declared.step.Step.{Step}
pub use Rattle.toll_trace.specs.declared.way.Way.{Way}
