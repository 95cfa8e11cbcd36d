-- Definitions and lemmas that several proofs here use.
pub use Rattle.std.proofs.lemmas.Bool.{leb-true}
pub use Rattle.std.proofs.lemmas.Cmp.{tied_itself}
pub use Rattle.std.proofs.lemmas.List.{at_drop_all}
pub use Rattle.std.specs.List.{count_by}
unfoldable pub use Rattle.std.specs.List.Sorted.{IsStrictlySortedBy}
pub use Rattle.std.specs.List.Sorted.{IsSortedByKey}
pub use Rattle.std.specs.Ordering.{is_gt, is_lt, ordering_reverse}
pub use Rattle.std.specs.declared.cmp.Ordering.{Ordering}
pub use Rattle.std.specs.declared.cmp.Ordering.TheVariants.{Equal, Greater, Less}
pub use Rattle.toll_base.proofs.PutTables.{length-known}
pub use Rattle.toll_base.proofs.Texts.{is_eq-nat_cmp, result_cmp_total}
pub use Rattle.toll_base.specs.Keys.{result_cmp}
pub use Rattle.toll_base.specs.Rows.{lot_row_of, sublot_row_of}
pub use Rattle.toll_base.specs.Slice.{result_at, test_at}
unfoldable pub use Rattle.toll_base.specs.Table.{row_at}
pub use Rattle.toll_base.specs.Words.{none_or}
pub use Rattle.toll_base.specs.declared.capacity.TheConstants.{MOST_MATERIALS, MOST_MOVEMENTS, MOST_RESULTS, MOST_STOCK, MOST_TESTS}
pub use Rattle.toll_base.specs.declared.rows.ResultRow.{ResultRow}
pub use Rattle.toll_base.specs.declared.rows.Row.TheVariants.{Material, Move, Test}
pub use Rattle.toll_history.proofs.Accepted.{none_applies, refused_first, rest_accept}
pub use Rattle.toll_history.proofs.Common.{Actual, AllByRecursion, Decision, Put, Receipts, Receive, Rejected, Released, Row, Scrap, Ship, Split, SublotRow, and_is, and_right, any-known, any-new, batch_has_room, both, count, count-new, false_from_ne_true, is_eq, is_eq-then, length-new, material_at, move_at, nat_cmp, nat_eq-exact, nat_list_cmp_total, option_map_or, or_else, or_left, or_parts, or_right, ordering_then, pair_cmp_total, row_at-put_row, row_fits, same_bytes-exact, same_bytes-refl, same_bytes-symm, same_lot, with_row}
pub use Rattle.toll_history.proofs.Decided.{Grows, LeavesOthers, RowsFit, decides, keeps_rules, below_limit, put_rows, verdict_is}
pub use Rattle.toll_history.proofs.EachMove.{all_weaker}
pub use Rattle.toll_history.proofs.Grown.{put_first, tables-others, tables-own, tables_after}
pub use Rattle.toll_history.proofs.Options.{known_passes, some_where}
pub use Rattle.toll_history.proofs.Owed.{owed, owed_by}
pub use Rattle.toll_history.proofs.Passed.{accepted_passes, checks_accept, move_fits}
pub use Rattle.toll_history.proofs.PutMoves.{put_came, put_went, put_went_over, with_lot, with_move, with_sublot}
pub use Rattle.toll_history.proofs.PutsOwn.{puts_rows}
pub use Rattle.toll_history.proofs.Recorded.{recorded_came_in, tables-untaken, went_out, went_over}
pub use Rattle.toll_history.proofs.Room.{came_fit, sublot_room, went_fit, went_over_fit}
pub use Rattle.toll_history.proofs.Sums.{total-alike, total-kept}
pub use Rattle.toll_history.proofs.Within.{bounded_owes}
unfoldable pub use Rattle.toll_history.specs.Amounts.{on_hand, shipped}
pub use Rattle.toll_history.specs.Amounts.{adds_to, amounts, ships_from, uses_up}
pub use Rattle.toll_history.specs.Bounds.{sublot_bounds}
pub use Rattle.toll_history.specs.Command.{Action, Record, Void}
pub use Rattle.toll_history.specs.Dispositions.{count_results_of, disposition_of, is_out_of_limits, latest_value, rejects, result_of, result_row, stays_released}
pub use Rattle.toll_history.specs.History.{acts}
unfoldable pub use Rattle.toll_history.specs.Movements.{stock}
pub use Rattle.toll_history.specs.Movements.{Made, Movement, brings_into, brought, has_move_key, lot_brought, made_by, makes_lot, makes_sublot, material_used, moved_by, movement_of, movements, standing, standing_after, taken, takes_from, voided_in}
pub use Rattle.toll_history.specs.OwnerFacts.{facts_given, lot_row, lot_row_made, sublot_row}
pub use Rattle.toll_history.specs.Puts.{gained, less_in_sublot}
pub use Rattle.toll_history.specs.Verdict.{Accepted, IsValidAction, is_actual, is_quarantined, movement_checks, verdict}
pub use Rattle.toll_stock.specs.Common.{AddMaterial, AddTest, Bytes, Checks, Decides, DecisionKeepsRules, Disposition, History, IsDecided, IsInKeyOrder, IsLawful, IsRowsOf, KeepsRules, Lot, LotRow, MoveRow, Quarantined, RecordResult, Reject, Release, Result, Slice, Sublot, OwnerFacts, amount_in, by, bytes_cmp, count_results_in, verdict_of_checks, is_outside, is_released, is_some_where, key_checks, latest_in, list_any, lot_at, lot_id, lot_made, material_checks, option_map, pair_cmp, receive_checks, reject_checks, release_checks, result_checks, same_bytes, scrap_checks, ship_checks, split_checks, sublot_at, sublot_known, facts_of, test_checks, total, unwrap_or, where_so}
pub use Rattle.toll_stock.specs.LotRows.{disposition_after, given_disposition, result_rows}
pub use Rattle.toll_stock.specs.LotTotals.{amount_of, is_shipment_of, on_hand_in, shipped_by, shipped_in, totals_given}
pub use Rattle.toll_stock.specs.declared.stock.Totals.{Totals}
pub use mathlib.Core.Bool.{false≢true}
