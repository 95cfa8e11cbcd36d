-- Definitions of other crates that several files here use.
pub use Rattle.std.specs.List.{AllByRecursion, list_all, list_any}
pub use Rattle.std.specs.Str.{bytes_eq}
pub use Rattle.toll_answers.specs.PlantAnswers.{IsPlantAnswer, IsValidCommand, Judged, PlantAnswer, Shows, after_plant, recorded_command}
pub use Rattle.toll_answers.specs.declared.plant_cmd.PlantCmd.{PlantCmd}
pub use Rattle.toll_base.specs.Bytes.{Bytes, same_bytes}
pub use Rattle.toll_base.specs.Words.{count, is_some_where, total, where_so}
pub use Rattle.toll_base.specs.declared.refusal.Refusal.{Refusal}
pub use Rattle.toll_base.specs.declared.refusal.Refusal.TheVariants.{BadAmount, BadName}
pub use Rattle.toll_desk.specs.Representing.{Represents}
pub use Rattle.toll_history.specs.History.{History, acts}
pub use Rattle.toll_history.specs.Verdict.{Accepted, IsLawful, Refused, Repeated, Verdict}
pub use Rattle.toll_keep.specs.Content.{Content, content_after}
pub use Rattle.toll_keep.specs.CallEffects.{CallEffect}
pub use Rattle.toll_keep.specs.Meaning.{Meaning, OverContent}
pub use Rattle.toll_keep.specs.declared.keep_fault.KeepFault.{KeepFault}
pub use Rattle.toll_keep.specs.declared.keep_fault.KeepFault.TheVariants.{Damaged, Memory}
