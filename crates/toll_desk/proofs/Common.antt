-- Words that several proofs here use.
pub use Rattle.std.proofs.lemmas.Bool.{not-true, or_parts}
pub use Rattle.std.proofs.lemmas.Bool.Decides.{nat_tests}
pub use Rattle.std.proofs.lemmas.List.{append-nil, map-append, take_all, take_more}
pub use Rattle.std.proofs.lemmas.List.Elements.{Contains-get_or, Contains-push_cases}
pub use Rattle.std.proofs.lemmas.Result.{IfOk-weaker}
pub use Rattle.std.specs.Cmp.Lexicographic.{nat_list_cmp_total}
pub use Rattle.std.specs.List.{list_any, position_or_len}
pub use Rattle.std.specs.Option.{IfSome, is_some, option_map, option_map_or}
pub use Rattle.std.specs.Ordering.{is_eq}
pub use Rattle.toll_answers.proofs.KnownLots.{lots_known, lots_owned, some_mapped}
pub use Rattle.toll_answers.specs.Edges.{IsOwnEdge, IsOwnJoined, IsPlantJoined, WasDone}
pub use Rattle.toll_answers.specs.PlantAnswers.{AreOrdersShown, IsBatchShownOr, IsCheckedOr, IsPlantAnswer, IsQuestionAnswer, IsVerdictOr, Judged, PlantAnswer, Shows, after_plant, asked_about, recorded_command, concerned, lot_checks, owner_checks}
pub use Rattle.toll_answers.specs.Recall.{IsRecall, recall_line_of}
unfoldable pub use Rattle.toll_answers.specs.Replies.{IsReply, after_reply}
pub use Rattle.toll_answers.specs.Replies.{IsOrdersReply, IsOwnerAnswer, IsBatchOr, IsLotOr, IsOrderOr, IsTraceOr, IsWritingReply, after_answer, has_owner_key}
pub use Rattle.toll_answers.specs.Texts.{batch_text, orders_text, recall_text}
pub use Rattle.toll_answers.specs.OwnerReply.{ReplyBatch, ReplyForbidden, ReplyLot, ReplyOrder, ReplyOrders, ReplyRefused, ReplyTrace, OwnerReply}
pub use Rattle.toll_answers.specs.Views.{IsLotViewOf}
pub use Rattle.toll_answers.specs.declared.genealogy.recall.RecallLine.{RecallLine}
pub use Rattle.toll_answers.specs.declared.plant_cmd.PlantCmd.{PlantCmd}
pub use Rattle.toll_answers.specs.declared.views.lot.LotView.{LotView}
pub use Rattle.toll_base.proofs.Bools.{and_is, both}
pub use Rattle.toll_base.proofs.KeyOrder.{put_row_ordered, row_at-put_row}
pub use Rattle.toll_base.proofs.PutTables.{length-new}
pub use Rattle.toll_base.proofs.Texts.{nat_eq-exact, same_bytes-exact, same_bytes-refl, same_bytes-symm}
pub use Rattle.toll_base.specs.Bytes.{Bytes, bytes_cmp, same_bytes}
pub use Rattle.toll_base.specs.Changes.{after_change, after_changes, changes_of}
pub use Rattle.toll_base.specs.Keys.{pair_cmp, requirement_cmp, result_cmp}
pub use Rattle.toll_base.specs.Lots.{lot_id}
pub use Rattle.toll_base.specs.Slice.{Slice, batch_at, empty_slice, lot_at, order_at, with_row}
pub use Rattle.toll_base.specs.SliceRules.{KeepsRules}
unfoldable pub use Rattle.toll_base.specs.Table.{row_at}
pub use Rattle.toll_base.specs.Table.{AreRowsGiven, IsInKeyOrder, put_row}
pub use Rattle.toll_base.specs.Values.{house_name}
pub use Rattle.toll_base.specs.Words.{is_some_where, none_or, or_else, where_so}
pub use Rattle.toll_base.specs.declared.decision.Change.{Change}
pub use Rattle.toll_base.specs.declared.decision.Change.TheVariants.{Owner, Put, Unit}
pub use Rattle.toll_base.specs.declared.decision.Decision.{Decision}
pub use Rattle.toll_base.specs.declared.decision.Decision.TheVariants.{Refuse}
pub use Rattle.toll_base.specs.declared.lot.Disposition.{Disposition}
pub use Rattle.toll_base.specs.declared.lot.Edge.{Edge}
pub use Rattle.toll_base.specs.declared.lot.LotId.{LotId}
pub use Rattle.toll_base.specs.declared.refusal.Refusal.{Refusal}
pub use Rattle.toll_base.specs.declared.refusal.Refusal.TheVariants.{LimitReached, OwnerExists, UnitExists, UnknownBatch, UnknownLot, UnknownOrder, UnknownOwner}
pub use Rattle.toll_base.specs.declared.request.Request.{Request}
pub use Rattle.toll_base.specs.declared.rows.BatchRow.{BatchRow}
pub use Rattle.toll_base.specs.declared.rows.LotRow.{LotRow}
pub use Rattle.toll_base.specs.declared.rows.OrderRow.{OrderRow}
pub use Rattle.toll_base.specs.declared.rows.OwnerRow.{OwnerRow}
pub use Rattle.toll_base.specs.declared.rows.UnitRow.{UnitRow}
pub use Rattle.toll_desk.specs.Representing.{AreOwnersOf, AreUnitsOf, Represents}
pub use Rattle.toll_history.proofs.Acts.{any_acts, first_acts}
pub use Rattle.toll_history.proofs.Grown.{tables-others, tables-own}
pub use Rattle.toll_history.proofs.Own.{acts-other, acts-own, acts-part, part-other, part-own}
pub use Rattle.toll_history.proofs.Passed.{accepted_passes}
pub use Rattle.toll_history.specs.Command.{Action, AddOwner, AddUnit, CancelOrder, Command, OpenBatch, PlaceOrder, Record, Reject, Release, by}
unfoldable pub use Rattle.toll_history.specs.Decision.{Decides, DecidesWith, DecisionKeepsRules}
pub use Rattle.toll_history.specs.Decision.{ChangesKeepRules, IsDecided, changes_if, verdict_of}
pub use Rattle.toll_history.specs.Dispositions.{disposition_of, result_of}
unfoldable pub use Rattle.toll_history.specs.History.{acts, part}
pub use Rattle.toll_history.specs.History.{History, adds_owner, count_owners, count_units, key_added, owner_key, owner_known, unit_known}
unfoldable pub use Rattle.toll_history.specs.Holders.{holder}
pub use Rattle.toll_history.specs.Holders.{OpenedBatch, opened, opened_by}
unfoldable pub use Rattle.toll_history.specs.Movements.{count_lots, count_sublots, lot_made, material_used, stock, sublot_known}
pub use Rattle.toll_history.specs.Movements.{Made}
pub use Rattle.toll_history.specs.OwnChanges.{EachChange, PutsOnly, PutsOnlyWith, is_put_in_house, is_put_of}
pub use Rattle.toll_history.specs.OwnerFacts.{IsRowsOf, OwnerFacts, lot_row, sublot_row, facts_given, facts_of}
unfoldable pub use Rattle.toll_history.specs.Verdict.{checks}
pub use Rattle.toll_history.specs.Verdict.{Accepted, Checks, IsLawful, IsValidAction, Refused, Repeated, Verdict, verdict_of_checks, grow, grown, is_quarantined, known_batch_checks, needs_owner, verdict}
pub use Rattle.toll_history.specs.Work.{batch_of, cancels, closes, count_opened, added_row, is_closed, material_of, measure_of, opens, order_of, order_placed, state_of, unit_of, unit_opened}
pub use Rattle.toll_keep.proofs.Calls.{goes_as, goes_fault, goes_then, read_fault, read_memory, read_ok, reads_then, settles, settles_still, spared}
pub use Rattle.toll_keep.proofs.Outcomes.{of_ok}
pub use Rattle.toll_keep.proofs.Slicing.{has_found, has_more, has_new}
pub use Rattle.toll_keep.specs.Content.{Content, ContentKeepsRules, AllChangesFit, PutsToKnown, content_after, after_owners, after_units, knows, empty_content, slice_of}
pub use Rattle.toll_keep.specs.CallEffects.{CallEffect, IsReading, Keeps}
pub use Rattle.toll_keep.specs.Holding.{IsEdgeOfSome, IsHolder, is_on}
pub use Rattle.toll_keep.specs.Meaning.{Meaning, OverContent}
pub use Rattle.toll_keep.specs.Slices.{has_slice, is_slice_of}
pub use Rattle.toll_keep.specs.declared.keep_fault.KeepFault.{KeepFault}
pub use Rattle.toll_stock.specs.LotTotals.{totals_given}
pub use Rattle.toll_trace.proofs.Members.{Contains-cases, Contains-here, Contains-later, Contains-none}
pub use Rattle.toll_trace.specs.Chain.{IsChain}
pub use Rattle.toll_trace.specs.Trace.{IsTrace}
pub use Rattle.toll_trace.specs.declared.step.Step.{Step}
pub use Rattle.toll_trace.specs.declared.way.Way.TheVariants.{Forward}
unfoldable pub use Rattle.toll_work.specs.BatchView.{IsViewOfHistories}
pub use Rattle.toll_work.specs.BatchView.{IsViewOver, line_key, line_of}
pub use Rattle.toll_work.specs.declared.views.BatchView.{BatchView}
pub use mathlib.Core.Bool.{false≢true}
