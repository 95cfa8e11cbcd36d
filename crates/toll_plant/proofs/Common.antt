-- Definitions and lemmas that several proofs here use.
pub use Rattle.clap.proofs.WalkLemmas.{find-map}
pub use Rattle.clap.specs.Simple.{App, HasMatchesOf, Shape, built, filled, is_simple, with_index}
unfoldable pub use Rattle.clap.specs.Takes.{walk_passes}
pub use Rattle.clap.specs.Takes.{settle_passes, takes}
unfoldable pub use Rattle.clap.specs.Walk.{walked}
pub use Rattle.clap.specs.Walk.{Row, Rule, Text, Walk, nothing_held, walk, walk_from}
unfoldable pub use Rattle.csv.specs.Reading.{Reached}
pub use Rattle.csv.specs.Reading.{AreRecords, Ready, default_config, is_flexible, source_of, strip_bom}
unfoldable pub use Rattle.csv.specs.Records.{field_at}
pub use Rattle.csv.specs.Records.{fields_of}
pub use Rattle.std.proofs.Math.Seq.{drop-append-add, drop-cons}
pub use Rattle.std.proofs.lemmas.Bool.{leb-true, not-false}
pub use Rattle.std.proofs.lemmas.Bool.Decides.{nat_tests}
pub use Rattle.std.proofs.lemmas.List.{append-nil, drop_all, drop_min, length-drop, length-map, length-take, length-take-le, map-append, take_all, take_min, take_more, take_rest}
pub use Rattle.std.proofs.lemmas.List.Folds.{list_any-append}
unfoldable pub use Rattle.std.specs.Fmt.{char_count, padded_integral}
pub use Rattle.std.specs.Fmt.{format_spec, styled_decimal}
pub use Rattle.std.specs.List.{repeat}
pub use Rattle.std.specs.Option.{option_map_or}
pub use Rattle.std.specs.Result.{is_ok}
pub use Rattle.toll_answers.specs.PlantAnswers.{IsQuestionAnswer, IsVerdictOr}
pub use Rattle.toll_base.specs.Values.{IsAmount, house_name, is_measure, is_name, is_owner_key, number_of}
pub use Rattle.toll_base.specs.declared.decision.Change.{Change}
pub use Rattle.toll_base.specs.declared.movement.MoveRow.{MoveRow}
pub use Rattle.toll_base.specs.declared.refusal.Refusal.TheVariants.{KeyConflict, UnknownOwner, Voided}
pub use Rattle.toll_base.specs.declared.role.Role.{Role}
pub use Rattle.toll_desk.specs.Translations.{is_answer_accepted, meaning_of_plant_reply}
pub use Rattle.toll_desk.specs.Plans.{ChangesLeadTo}
pub use Rattle.toll_desk.specs.PlantStaged.{looks_at_two}
pub use Rattle.toll_history.proofs.Acts.{any_acts, count_acts}
pub use Rattle.toll_history.proofs.KeysOnce.{found_once, void_of_actual}
pub use Rattle.toll_history.specs.Command.{Command, Record, by}
pub use Rattle.toll_history.specs.History.{adds_owner, owner_known}
pub use Rattle.toll_history.specs.Movements.{has_move_key, movement_of, movements, voided_in, voids_key}
pub use Rattle.toll_history.specs.Verdict.{grow, grown, verdict}
pub use Rattle.toll_keep.specs.declared.keep_fault.KeepFault.TheVariants.{Closed, Disk}
pub use Rattle.toll_plant.specs.Common.{Accepted, AllByRecursion, BadAmount, BadName, Bytes, Content, Damaged, CallEffect, History, IsLawful, IsPlantAnswer, IsValidCommand, Judged, KeepFault, Meaning, Memory, OverContent, PlantCmd, PlantAnswer, Refusal, Refused, Repeated, Represents, Verdict, acts, content_after, after_plant, bytes_eq, recorded_command, is_some_where, list_all, list_any, same_bytes, where_so}
pub use mathlib.Core.Bool.{false≢true}
