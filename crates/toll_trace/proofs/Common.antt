-- Definitions and lemmas that several proofs here use.
pub use Rattle.std.proofs.lemmas.Bool.{and_from, and_parts, cases_eq, cases_lt, eqb-false, eqb-true, false_from_ne_true, le-leb, leb-true, lt-ltb, not-true, not_from_false, not_from_true, or_cases, or_left, or_right}
pub use Rattle.std.proofs.lemmas.Cmp.{eq_by_cmp_equiv, nat_cmp_total, nat_list_cmp_total, on_total, ranked, then_total, tied_itself}
pub use Rattle.std.proofs.lemmas.Grind.{common_steps}
pub use Rattle.std.proofs.lemmas.List.{drop-map, flat_map_more, get_or-drop, get_or-set_other, get_or-set_same, get_or-take, get_or_append_left, get_or_default, get_or_past, get_or_push, length-append, length-drop, length-map, length-replicate, length-set, length-take, length_push, map_push, nil_from_length, take-map, take_all, take_more, with_items_is}
pub use Rattle.std.proofs.lemmas.List.Elements.{Contains-append_cases, Contains-append_left, Contains-append_right, Contains-get_or}
pub use Rattle.std.proofs.lemmas.List.Kept.{Any-dedup, Contains-from_dedup, IsStrictlySortedBy-dedup}
pub use Rattle.std.proofs.lemmas.List.Sorted.{Contains-permutation, IsPartitionedBy-leb, IsPartitionedBy-ltb, IsPermutation-sym, IsStrictWeakOrder-flip, answers_always, ranks_by, searchable_from_sorted, sorted_far}
pub use Rattle.std.proofs.lemmas.Map.Lookups.{CmpEqualImpliesEq, exact_bytes, exact_pairs, exact_unsigned}
pub use Rattle.std.proofs.lemmas.Map.Views.{tells_apart}
pub use Rattle.std.specs.Cmp.{IsStrictWeakOrder, IsTotalOrder}
pub use Rattle.std.specs.List.{AllByRecursion, cons_option, dedup, dedup_from, filter_map, flat_map}
unfoldable pub use Rattle.std.specs.List.Sorted.{IsStrictlySortedBy}
pub use Rattle.std.specs.List.Sorted.{IsPartitionPoint, IsPartitionedBy, IsPermutation, IsSortedBy, IsSortedByKey}
pub use Rattle.std.specs.Ordering.{MatchOrdering, is_eq, is_le, is_lt, nat_cmp, ordering_index, ordering_reverse, ordering_then}
pub use Rattle.std.specs.declared.cmp.Ordering.{Ordering}
pub use Rattle.std.specs.declared.cmp.Ordering.TheVariants.{Equal, Greater, Less}
pub use Rattle.toll_base.specs.Bytes.{Bytes, bytes_cmp}
pub use Rattle.toll_base.specs.Keys.{batch_cmp}
pub use Rattle.toll_base.specs.Lots.{edge_cmp, lot_cmp}
pub use Rattle.toll_base.specs.Words.{count}
pub use Rattle.toll_base.specs.declared.lot.Edge.{Edge}
pub use Rattle.toll_base.specs.declared.lot.LotId.{LotId}
pub use Rattle.toll_base.specs.declared.movement.MoveRow.{MoveRow}
pub use Rattle.toll_base.specs.declared.role.Role.{Role}
pub use Rattle.toll_base.specs.declared.role.Role.TheVariants.{Consumed, Produced}
pub use Rattle.toll_trace.specs.Chain.{IsChain, IsJoined, edge_of, step_ends}
pub use Rattle.toll_trace.specs.EdgeIndex.{AreWithin, LeadsThrough, leaving}
pub use Rattle.toll_trace.specs.Edges.{AreEdges, IsActual, IsDrawn, IsEdge, Stands}
pub use Rattle.toll_trace.specs.Graph.{IsGraph, IsGraphOf, LeadAmong, Leads, joints_of}
pub use Rattle.toll_trace.specs.InOrder.{IsInOrder}
pub use Rattle.toll_trace.specs.Numbers.{AreAdded, AreAllNumbers, AreBelow, HaveNumbers, HaveUsed, IsNumber}
pub use Rattle.toll_trace.specs.Places.{AreAhead, AreSliceNumbersInRange, Chain, ChainSegment, IsAhead, IsAheadOf, PassesThrough, chain_cmp, chain_segment_cmp, order_along, placed_use}
pub use Rattle.toll_trace.specs.Search.{IsLevel, is_found, next_lot, step_at}
pub use Rattle.toll_trace.specs.Trace.{IsTrace, lots_of}
pub use Rattle.toll_trace.specs.Uses.{AreLeft, Batch, edge_between, edges_from, is_not_above, same_use, standing_use, use_as, uses}
pub use Rattle.toll_trace.specs.Walk.{AreEntered, AreFaced, AreLedOn, AreLedTo, AreMarked, AreWalked, IsFaced, IsLedOn, IsStepped, IsWalked, LeadThrough, all_steps, is_marked}
pub use Rattle.toll_trace.specs.declared.edge_index.EdgeIndex.{EdgeIndex}
pub use Rattle.toll_trace.specs.declared.edge_index.Span.{Span}
pub use Rattle.toll_trace.specs.declared.edges.LotUse.{LotUse}
pub use Rattle.toll_trace.specs.declared.search.Part.{Part}
pub use Rattle.toll_trace.specs.declared.step.Step.{Step}
pub use Rattle.toll_trace.specs.declared.way.Way.{Way}
pub use Rattle.toll_trace.specs.declared.way.Way.TheVariants.{Back, Forward}
pub use mathlib.Core.Bool.{false≢true}
