-- Words of other crates that several definitions here are said in.
pub use Rattle.serde_json.specs.Data.{Data, Members, array, boolean, member, negative, no_members, number, object, string, unsigned}
pub use Rattle.std.specs.List.{AllByRecursion, before_first, starts_with}
pub use Rattle.toll_answers.specs.OwnerReply.{OwnerReply, ReplyTrace}
pub use Rattle.toll_answers.specs.PlantAnswers.{IsPlantAnswer, Judged, PlantAnswer, Shows, after_plant, recorded_command}
pub use Rattle.toll_answers.specs.Texts.{recall_line_text, recall_text, trace_text}
pub use Rattle.toll_base.specs.Bytes.{Bytes, same_bytes}
pub use Rattle.toll_base.specs.Values.{IsBatchNo, house_name, is_name}
pub use Rattle.toll_base.specs.declared.lot.LotId.{LotId}
pub use Rattle.toll_base.specs.declared.request.Request.{Request}
pub use Rattle.toll_desk.specs.Outcome.{HoldsFor}
pub use Rattle.toll_desk.specs.Translations.{meaning_of_plant_reply, meaning_of_reply, writes}
pub use Rattle.toll_history.specs.History.{History, part}
pub use Rattle.toll_history.specs.Verdict.{Accepted, IsLawful}
pub use Rattle.toll_keep.specs.Content.{Content}
pub use Rattle.toll_keep.specs.Meaning.{Meaning}
pub use Rattle.toll_keep.specs.declared.keep_fault.KeepFault.{KeepFault}
pub use Rattle.toll_keep.specs.declared.keep_fault.KeepFault.TheVariants.{Memory}
pub use Rattle.toll_protocol.specs.declared.http_messages.failure.Failure.{Failure}
pub use Rattle.toll_protocol.specs.declared.http_messages.failure.Failure.TheVariants.{Forbidden}
pub use Rattle.toll_protocol.specs.declared.http_messages.verb.Verb.{Verb}
pub use Rattle.toll_trace.specs.declared.way.Way.{Way}
