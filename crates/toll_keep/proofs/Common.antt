-- Definitions and lemmas that several proofs here use.
pub use Rattle.std.proofs.lemmas.Bool.{and_parts, not-false, not-true, or_from}
pub use Rattle.std.proofs.lemmas.Iterator.{YieldsList-from_slice}
pub use Rattle.std.proofs.lemmas.Iterator.Search.{find_from_yields_List, position_from_yields_List}
pub use Rattle.std.proofs.lemmas.List.{at_drop_all, map-append, take-append-drop, take_all, with_items_is}
pub use Rattle.std.proofs.lemmas.List.Elements.{All-contains, All-get_or, All-map, All-nil, All-push, All-weaker, Contains-push, Contains-push_cases}
pub use Rattle.std.proofs.lemmas.List.Folds.{list_any-append, list_any_at}
pub use Rattle.std.proofs.lemmas.List.Quantifiers.{position-Some}
pub use Rattle.std.specs.List.{AllWithin, position_or_len}
pub use Rattle.std.specs.Vec.{with_items}
pub use Rattle.toll_base.proofs.Texts.{batch_cmp_total, same_bytes-exact, same_bytes-refl, same_bytes-symm}
unfoldable pub use Rattle.toll_base.specs.Table.{row_at}
pub use Rattle.toll_base.specs.Table.{IsInKeyOrder}
pub use Rattle.toll_base.specs.Values.{house_name}
pub use Rattle.toll_base.specs.Words.{is_some_where, none_or}
pub use Rattle.toll_keep.specs.CallEffects.{CallEffect, IsAmong, IsReading, IsSpared, Keeps, Settles, closes_keep}
pub use Rattle.toll_keep.specs.Common.{AllByRecursion, AreEdges, Bytes, Change, IsEdge, Owner, OwnerRow, Put, Slice, Unit, UnitRow, after_change, after_changes, batch_at, bytes_cmp, empty_slice, list_any, same_bytes, with_row}
pub use Rattle.toll_keep.specs.Content.{AllChangesFit, ChangeFits, Content, ContentKeepsRules, after_owners, after_units, content_after, knows, slice_of}
pub use Rattle.toll_keep.specs.Graphs.{AreGraphsFor, AreGraphsOf, HasGraph, IsKnownGraph, is_actual, lacks_key, may_change_graph, may_draw}
pub use Rattle.toll_keep.specs.HeldFor.{AgreeFor, AreAmong, KeepsHeld, KeepsOneMore, MakesHeld, PutsOutside, ReadsHeld}
pub use Rattle.toll_keep.specs.Holding.{AreGathered, GivesTrace, IsEdgeOfOne, IsEdgeOfSome, IsHolder, IsHolderAmong, IsHolderIn, is_on}
pub use Rattle.toll_keep.specs.Meaning.{Meaning, OverContent, Part, meaning_for, meaning_of}
pub use Rattle.toll_keep.specs.Reads.{HaveRead, IsContentKept}
pub use Rattle.toll_keep.specs.Remembered.{AreCachedRows, AreFor, AreOf, IsCacheFor, IsCacheOf, IsNothing, OnlyKnownFor, OnlyKnownHaveRows, is_addition, is_put_for}
pub use Rattle.toll_keep.specs.Slices.{IsOneEach, Kept, content_of, has_slice, is_slice_of, put_slice, rows_in}
pub use Rattle.toll_keep.specs.declared.keep_fault.KeepFault.{KeepFault}
pub use Rattle.toll_trace.proofs.Common.{Contains-append_cases, Contains-append_left, Contains-append_right, Edge, IsTotalOrder, Ordering, edge_cmp, is_eq, or_left, or_right, ordering_reverse, take_more}
pub use Rattle.toll_trace.proofs.Members.{Contains-cases, Contains-here, Contains-later, Contains-none, kept_in_order, member_of_all}
pub use Rattle.toll_trace.proofs.Orders.{edges_exact}
pub use Rattle.toll_trace.specs.Edges.{Stands}
pub use Rattle.toll_trace.specs.InOrder.{IsInOrder}
pub use Rattle.toll_trace.specs.Recorded.{Draws}
pub use mathlib.Core.Bool.{false≢true}
