-- Definitions and lemmas that several proofs here use.
pub use Rattle.std.proofs.lemmas.Bool.{and_from, and_right, false_from_ne_true, not-false, not-true, or_cases, or_from, or_left, or_parts, or_right}
pub use Rattle.std.proofs.lemmas.Bool.Decides.{nat_tests}
pub use Rattle.std.proofs.lemmas.Option.{cond_some}
pub use Rattle.std.specs.Cmp.Lexicographic.{nat_list_cmp_total}
pub use Rattle.std.specs.List.{AllByRecursion, list_any}
pub use Rattle.std.specs.Option.{option_map, option_map_or}
pub use Rattle.std.specs.Ordering.{is_eq, nat_cmp, ordering_then}
pub use Rattle.toll_base.proofs.Bools.{and_is, both}
pub use Rattle.toll_base.proofs.KeyOrder.{length-put_row, row_at-put_row}
pub use Rattle.toll_base.proofs.PutTables.{any-known, any-new, count-new, length-new}
pub use Rattle.toll_base.proofs.SliceFits.{amount_bound, fits_exact}
pub use Rattle.toll_base.proofs.Texts.{is_eq-then, nat_eq-exact, pair_cmp_total, same_bytes-exact, same_bytes-refl, same_bytes-symm}
pub use Rattle.toll_base.specs.Bytes.{Bytes, bytes_cmp, same_bytes}
pub use Rattle.toll_base.specs.Changes.{after_changes, changes_of}
pub use Rattle.toll_base.specs.Keys.{RequirementKey, pair_cmp}
pub use Rattle.toll_base.specs.Lots.{lot_id, same_lot}
pub use Rattle.toll_base.specs.Roles.{role_cmp, same_role}
pub use Rattle.toll_base.specs.Rows.{lot_row_of, sublot_row_of}
pub use Rattle.toll_base.specs.Slice.{Slice, lot_at, material_at, move_at, sublot_at, with_row}
pub use Rattle.toll_base.specs.SliceRules.{KeepsRules, batch_has_room, is_actual_of, row_fits}
unfoldable pub use Rattle.toll_base.specs.Table.{row_at}
pub use Rattle.toll_base.specs.Table.{put_row}
pub use Rattle.toll_base.specs.Values.{house_name}
pub use Rattle.toll_base.specs.Words.{count, first_some, is_some_where, or_else, total, where_so}
pub use Rattle.toll_base.specs.declared.decision.Change.{Change}
pub use Rattle.toll_base.specs.declared.decision.Change.TheVariants.{Put}
pub use Rattle.toll_base.specs.declared.decision.Decision.{Decision}
pub use Rattle.toll_base.specs.declared.lot.Disposition.{Disposition}
pub use Rattle.toll_base.specs.declared.lot.Disposition.TheVariants.{Quarantined, Rejected, Released}
pub use Rattle.toll_base.specs.declared.lot.LotId.{LotId}
pub use Rattle.toll_base.specs.declared.lot.Origin.{Origin}
pub use Rattle.toll_base.specs.declared.lot.Origin.TheVariants.{Batch, Receipts}
pub use Rattle.toll_base.specs.declared.movement.Move.{Move}
pub use Rattle.toll_base.specs.declared.movement.Move.TheVariants.{Actual, Receive, Scrap, Ship, Split}
pub use Rattle.toll_base.specs.declared.movement.MoveRow.{MoveRow}
pub use Rattle.toll_base.specs.declared.refusal.Refusal.{Refusal}
pub use Rattle.toll_base.specs.declared.refusal.Refusal.TheVariants.{LimitReached, UnknownOwner}
pub use Rattle.toll_base.specs.declared.role.Role.{Role}
pub use Rattle.toll_base.specs.declared.role.Role.TheVariants.{Consumed, Produced}
pub use Rattle.toll_base.specs.declared.rows.LotRow.{LotRow}
pub use Rattle.toll_base.specs.declared.rows.RequirementRow.{RequirementRow}
pub use Rattle.toll_base.specs.declared.rows.Row.{Row}
pub use Rattle.toll_base.specs.declared.rows.SublotRow.{SublotRow}
pub use Rattle.toll_history.specs.Command.{Action, AddMaterial, AddOwner, AddRecipe, AddTest, AddUnit, CancelOrder, Command, PlaceOrder, Record, RecordResult, Reject, Release, Require, Void, by}
unfoldable pub use Rattle.toll_history.specs.Decision.{Decides, DecidesWith, DecisionKeepsRules}
pub use Rattle.toll_history.specs.Decision.{ChangesKeepRules, IsDecided, IsRightOver, changes_if, verdict_of}
pub use Rattle.toll_history.specs.Dispositions.{count_results, count_results_of, disposition_of, has_open_test, is_out_of_limits, is_outside, is_result_of, latest_value, passes_test, rejects, releases, result_of, stays_released, value_recorded}
unfoldable pub use Rattle.toll_history.specs.History.{acts, part}
pub use Rattle.toll_history.specs.History.{History, adds_owner, adds_some_unit, count_owners, count_units, owner_known}
pub use Rattle.toll_history.specs.Laws.{Agrees, BringsOwn, IsCleared, IsLotUndisposed, IsUnmoved, IsWithinLimits, TakesKnown, coming, gives_from, going, has_this_key, is_taken_in, records_or_voids}
unfoldable pub use Rattle.toll_history.specs.Movements.{count_lots, count_sublots, lot_made, material_used, stock, sublot_known}
pub use Rattle.toll_history.specs.Movements.{Made, Movement, brings_into, brought, count_actuals_of, count_making, count_movements, first_made, has_move_key, lot_brought, made_by, makes_lot, makes_sublot, moved_by, movement_of, movement_recorded, movements, standing, standing_after, sublot_in, taken, takes_from, voided_in, voids_key}
pub use Rattle.toll_history.specs.OwnerFacts.{IsRowsOf, OwnerFacts, facts_given, facts_of, lot_row, lot_row_made, sublot_row, without_amount, without_amounts}
unfoldable pub use Rattle.toll_history.specs.Verdict.{checks}
pub use Rattle.toll_history.specs.Verdict.{Accepted, Checks, IsLawful, IsValidAction, PlantFacts, Refused, Repeated, Verdict, action_checks, amount_in, crosses, grow, grown, is_actual, is_made_by, is_quarantined, is_receipts, is_released, key_checks, movement_checks, needs_owner, plant_facts_given, recipe_of_order, requirement_key, tables_for, takes_too_much, tests_open, verdict, verdict_of_check, verdict_of_checks}
pub use Rattle.toll_history.specs.Work.{batch_of, cancels, count_materials, count_opened, count_orders, count_recipes, count_requirements, count_tests, material_added, material_of, opens, order_of, order_placed, recipe_added, recipe_of, recipe_used, required, requirement_of, same_requirement, test_added, test_of}
pub use mathlib.Core.Bool.{false≢true}
