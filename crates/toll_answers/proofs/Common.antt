-- Words that several proofs here use.
pub use Rattle.std.proofs.lemmas.Result.{IfOk-weaker}
pub use Rattle.std.specs.Cmp.{IsTotalOrder}
pub use Rattle.std.specs.List.{cons_option, filter_map}
unfoldable pub use Rattle.std.specs.List.Sorted.{IsStrictlySortedBy}
pub use Rattle.std.specs.Option.{option_and_then, option_map_or}
pub use Rattle.std.specs.Ordering.{is_gt, ordering_reverse}
pub use Rattle.std.specs.declared.cmp.Ordering.{Ordering}
pub use Rattle.std.specs.declared.cmp.Ordering.TheVariants.{Equal, Greater, Less}
pub use Rattle.toll_answers.specs.Common.{Action, AreEdges, AreRowsGiven, BatchRow, Bytes, CancelOrder, Checks, Command, Edge, History, IsChain, IsEdge, IsLawful, IsRowsOf, IsTrace, LotId, LotRow, MoveRow, OrderRow, PlaceOrder, Record, Refused, Reject, Release, RequirementKey, RequirementLine, Slice, Step, Verdict, Way, acme, accepted_verdicts, batch_of, by, bytes_cmp, edge_of, verdict_of_checks, grow, held_in, house_name, known_batch_checks, line_key, line_of, list_any, lot_at, lot_row, material_at, measure_of, on_hand_in, one_product, order_of, owner_key, owner_known, pair_cmp, requirement_cmp, result_cmp, same_bytes, standing, verdicts, voided_in}
pub use Rattle.toll_answers.specs.Edges.{IsOwnEdge, IsOwnJoined, IsPlantJoined, WasDone}
pub use Rattle.toll_answers.specs.InSlice.{IsLotViewIn, has_consumed_in, line_in, measure_in}
pub use Rattle.toll_answers.specs.Texts.{IsStockText, SublotShown, batch_text, orders_text, recall_text, shown_in, shown_over, stock_text, sublots_in, trace_text}
pub use Rattle.toll_answers.specs.Views.{IsLotViewOf, consumes_lot, has_consumed, results_of_lot, stock_line, sublots_of_lot}
pub use Rattle.toll_answers.specs.Worked.{circle, consumed_in_a_circle, house_material, made_of_house_material, of_acme, of_house}
pub use Rattle.toll_answers.specs.declared.views.stock.StockLine.{StockLine}
pub use Rattle.toll_base.proofs.Texts.{requirement_cmp_total, result_cmp_total}
pub use Rattle.toll_base.specs.Lots.{edge_cmp, lot_cmp}
unfoldable pub use Rattle.toll_base.specs.Table.{row_at}
pub use Rattle.toll_base.specs.Table.{IsInKeyOrder}
pub use Rattle.toll_base.specs.Words.{none_or}
pub use Rattle.toll_history.proofs.Common.{AllByRecursion, SublotRow, count, is_eq, is_some_where, lot_id, nat_list_cmp_total, not-true, option_map, or_else, or_parts, pair_cmp_total, same_bytes-exact, same_bytes-refl, same_lot, where_so}
pub use Rattle.toll_history.proofs.EachMove.{all_weaker}
pub use Rattle.toll_history.proofs.KeysOnce.{found_once, void_of_actual}
pub use Rattle.toll_history.proofs.Own.{acts-other, acts-own, acts-part}
pub use Rattle.toll_history.specs.Command.{Void}
unfoldable pub use Rattle.toll_history.specs.History.{acts, part}
pub use Rattle.toll_history.specs.History.{adds_owner}
pub use Rattle.toll_history.specs.Laws.{BringsOwn, TakesKnown, has_this_key}
unfoldable pub use Rattle.toll_history.specs.Movements.{count_lots, count_sublots, lot_made, material_used, stock, sublot_known}
pub use Rattle.toll_history.specs.Movements.{Movement, brings_into, has_move_key, movement_of, movement_recorded, movements, takes_from, voids_key}
pub use Rattle.toll_history.specs.OwnerFacts.{OwnerFacts}
unfoldable pub use Rattle.toll_history.specs.Verdict.{checks}
pub use Rattle.toll_history.specs.Verdict.{Accepted, IsValidAction, Repeated, cancel_checks, crosses, grown, is_actual, order_checks, reject_checks, release_checks, verdict}
pub use Rattle.toll_history.specs.Work.{requirement_of}
pub use Rattle.toll_stock.proofs.Sums.{each_found}
pub use Rattle.toll_trace.proofs.Members.{Contains-cases, Contains-filter, Contains-filter_map, Contains-from_filter, Contains-from_filter_map, Contains-from_map, Contains-here, Contains-later, Contains-map, Contains-none, member_of_all}
pub use Rattle.toll_trace.proofs.Unique.{drawn_same, edges_same, trace_same, trace_unique}
pub use Rattle.toll_trace.specs.Chain.{IsJoined}
pub use Rattle.toll_trace.specs.Edges.{IsActual, Stands}
pub use Rattle.toll_trace.specs.declared.way.Way.TheVariants.{Back, Forward}
pub use Rattle.toll_work.proofs.KeyedRows.{filter_ordered, map_ordered, row_at-filter, row_at-map}
pub use mathlib.Core.Bool.{false≢true}
