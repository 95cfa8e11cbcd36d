-- Words of other crates that several definitions and contracts here are said in.
pub use Rattle.toll_base.specs.Bytes.{bytes_cmp}
pub use Rattle.toll_base.specs.Keys.{pair_cmp, result_cmp}
pub use Rattle.toll_base.specs.Lots.{lot_id, same_lot}
pub use Rattle.toll_base.specs.Table.{AreRowsGiven, IsInKeyOrder}
pub use Rattle.toll_base.specs.declared.lot.Edge.{Edge}
pub use Rattle.toll_base.specs.declared.refusal.Refusal.TheVariants.{UnknownLot, UnknownOrder, UnknownOwner}
pub use Rattle.toll_base.specs.declared.rows.LotRow.{LotRow}
pub use Rattle.toll_history.specs.Command.{Action, AddOwner, AddRecipe, AddUnit, CancelOrder, Command, CommandBatch, OpenBatch, PlaceOrder, Record, Reject, Release, by, moves}
pub use Rattle.toll_history.specs.Common.{BatchRow, Bytes, LotId, MoveRow, OrderRow, Refusal, RequirementKey, ResultRow, Slice, SublotRow, house_name, list_any, lot_at, material_at, option_map, option_map_or, requirement_cmp, same_bytes, void_at}
pub use Rattle.toll_history.specs.History.{History, acts, owner_key, owner_known, part}
pub use Rattle.toll_history.specs.Movements.{standing, voided_in}
pub use Rattle.toll_history.specs.OwnerFacts.{IsRowsOf, lot_row, sublot_row, facts_given}
pub use Rattle.toll_history.specs.Verdict.{Checks, IsLawful, IsValidAction, Refused, Verdict, verdict_of_checks, grow, known_batch_checks, verdict}
pub use Rattle.toll_history.specs.Work.{batch_of, measure_of, order_of}
pub use Rattle.toll_history.specs.Worked.{acme, history_after, accepted_verdicts, material, one_product, receives, require, verdicts}
pub use Rattle.toll_stock.specs.LotTotals.{held_in, on_hand_in}
pub use Rattle.toll_trace.specs.Chain.{IsChain, edge_of}
pub use Rattle.toll_trace.specs.Edges.{AreEdges, IsDrawn, IsEdge}
pub use Rattle.toll_trace.specs.Trace.{IsTrace}
pub use Rattle.toll_trace.specs.declared.step.Step.{Step}
pub use Rattle.toll_trace.specs.declared.way.Way.{Way}
pub use Rattle.toll_trace.specs.declared.way.Way.TheVariants.{Back, Forward}
pub use Rattle.toll_work.specs.BatchView.{line_key, line_of}
pub use Rattle.toll_work.specs.declared.views.RequirementLine.{RequirementLine}
