-- Words that several proofs here use.
pub use Rattle.std.proofs.lemmas.Result.{IfOk-weaker}
pub use Rattle.std.specs.List.{count_by}
pub use Rattle.std.specs.declared.cmp.Ordering.{Ordering}
pub use Rattle.toll_base.proofs.PutTables.{count-known, length-known}
pub use Rattle.toll_base.proofs.Texts.{batch_cmp_total, requirement_cmp_total, same_batch}
pub use Rattle.toll_base.specs.Keys.{batch_cmp}
pub use Rattle.toll_base.specs.Rows.{lot_row_of, sublot_row_of}
pub use Rattle.toll_base.specs.SliceRules.{count_actuals}
unfoldable pub use Rattle.toll_base.specs.Table.{row_at}
pub use Rattle.toll_base.specs.Words.{none_or}
pub use Rattle.toll_base.specs.declared.capacity.TheConstants.{MOST_MOVEMENTS, MOST_ORDERS, MOST_RECIPES, MOST_REQUIREMENTS, MOST_STOCK, MOST_SUBLOTS}
pub use Rattle.toll_base.specs.declared.refusal.Refusal.TheVariants.{UnknownKey}
pub use Rattle.toll_base.specs.declared.rows.Row.TheVariants.{Batch, Recipe}
pub use Rattle.toll_base.specs.declared.state.State.{State}
pub use Rattle.toll_history.proofs.Accepted.{accepted_first, applies, none_applies, refused_first}
pub use Rattle.toll_history.proofs.Acts.{acts-cons, along_acts}
pub use Rattle.toll_history.proofs.Adding.{adding_decided, adding_decided_with, adding_keeps}
pub use Rattle.toll_history.proofs.Common.{Actual, AllByRecursion, Change, LotId, Put, Role, Row, SublotRow, after_changes, and_is, any-known, any-new, both, count-new, first_some, house_name, is_eq, is_eq-then, length-new, list_any, lot_at, lot_id, nat_eq-exact, nat_list_cmp_total, nat_tests, not-false, option_map, or_else, or_left, or_parts, or_right, ordering_then, pair_cmp, row_at-put_row, row_fits, same_bytes-exact, same_bytes-refl, same_bytes-symm, same_lot, sublot_at, with_row}
pub use Rattle.toll_history.proofs.Decided.{Grows, LeavesOthers, RowsFit, decides, decides_with, grown_rows, keeps_put, keeps_rules, keeps_skip, below_limit, put_rows, put_rows_owner, refused_decides, right_over, rules_by, verdict_is}
pub use Rattle.toll_history.proofs.Grown.{after_is, more, put_first, tables-others, tables-own, tables_after, tables_from}
pub use Rattle.toll_history.proofs.Moving.{held_is, tables_for_are}
pub use Rattle.toll_history.proofs.Options.{known_passes, is_none_map, none_of, some_if_not_none, true_where}
pub use Rattle.toll_history.proofs.Owed.{owed, owed_by}
pub use Rattle.toll_history.proofs.Own.{acts-own, other_than}
pub use Rattle.toll_history.proofs.Passed.{accepted_passes, move_fits}
pub use Rattle.toll_history.proofs.PutMoves.{is_sublot_key, put_came, put_move, put_sublot, put_void, put_went, with_lot, with_move, with_sublot, with_void}
pub use Rattle.toll_history.proofs.PutsOwn.{each_decided, puts_rows}
pub use Rattle.toll_history.proofs.Recorded.{recorded_came_in, moved_elsewhere, tables-untaken, taken_from_other, went_out}
pub use Rattle.toll_history.proofs.Room.{came_fit, less_fit, move_room, sublot_room, sublot_room_in, unbounded}
pub use Rattle.toll_history.proofs.Sums.{total-alike, total-filtered, total-kept}
unfoldable pub use Rattle.toll_history.specs.Amounts.{actual_amount}
pub use Rattle.toll_history.specs.Amounts.{meets_requirement}
pub use Rattle.toll_history.specs.Bounds.{sublot_bounds}
pub use Rattle.toll_history.specs.Command.{Action}
unfoldable pub use Rattle.toll_history.specs.Decision.{DecidesWith, DecisionKeepsRules}
pub use Rattle.toll_history.specs.Decision.{ChangesKeepRules, changes_if}
unfoldable pub use Rattle.toll_history.specs.History.{acts}
pub use Rattle.toll_history.specs.Laws.{BringsOwn, TakesKnown, records_or_voids}
unfoldable pub use Rattle.toll_history.specs.Movements.{count_lots, count_sublots, lot_made, material_used}
pub use Rattle.toll_history.specs.Movements.{Movement, brings_into, first_made, has_move_key, movement_of, movements, standing, standing_after, stock, sublot_in, sublot_known, takes_from, voided_in}
pub use Rattle.toll_history.specs.OwnChanges.{EachChange, is_put_in_house, is_put_of}
pub use Rattle.toll_history.specs.OwnerFacts.{sublot_row, facts_given}
pub use Rattle.toll_history.specs.Puts.{gained, less_in_sublot}
pub use Rattle.toll_history.specs.Verdict.{Accepted, IsValidAction, Refused, Repeated, Verdict, is_of_closed, verdict_of_check, takes_too_much, verdict}
pub use Rattle.toll_history.specs.Work.{batch_of, cancels, count_opened, is_closed, material_of, opens, order_of, order_placed, requirement_of, same_requirement, state_of, unit_of, unit_opened}
pub use Rattle.toll_work.specs.ActualPlans.{recipe_checks_of, running_checks, source_checks, target_checks, use_checks}
pub use Rattle.toll_work.specs.Common.{AddRecipe, AreRowsGiven, BatchClosed, BatchRow, Bytes, CancelOrder, Checks, CloseBatch, CommandBatch, Consumed, Decides, Decision, History, IsDecided, IsInKeyOrder, IsLawful, IsRowsOf, KeepsRules, LimitReached, Lot, Move, MoveRow, NotEnough, OpenBatch, Order, OrderRow, PlaceOrder, Placing, Produced, PutsOnly, PutsOnlyWith, Record, Require, Requirement, RequirementKey, RequirementRow, Slice, Sublot, OwnerFacts, Void, Voided, actual_checks, amount_in, batch_at, batch_command_checks, by, bytes_cmp, cancel_checks, changes_of, close_checks, consumed_checks, crosses, verdict_of_checks, followed, is_actual, is_actual_of, is_some_where, key_checks, lot_bounds, move_at, open_batch_checks, open_checks, option_and_then, option_map_or, order_at, order_checks, owner_known, placed_row, produced_checks, recipe_checks, recipe_of_order, requirement_at, requirement_checks, requirement_cmp, requirement_key, verdict_of_result, same_bytes, sublot_named, tables_for, facts_of, total, unit_known, void_at, where_so}
pub use Rattle.toll_work.specs.Plans.{cancelled_row, cancelled_rows, changed_rows, closed_row, commanded_row, opened_row, opened_rows}
pub use Rattle.toll_work.specs.Voiding.{actual_sublot, giving_bounds, void_batch_checks}
pub use mathlib.Core.Bool.{false≢true}
