-- Words that several proofs here use.
pub use Rattle.std.proofs.lemmas.Bool.Decides.{nat_tests}
pub use Rattle.std.proofs.lemmas.Cmp.{alike_right, nat_cmp_total, on_total, then_total, tied_back, tied_itself}
pub use Rattle.std.proofs.lemmas.Option.{get_or_from_slice_get, none-some, slice_get-get_or}
pub use Rattle.std.specs.Cmp.{IsTotalOrder, eq_by_cmp_equiv}
pub use Rattle.std.specs.Cmp.Lexicographic.{nat_list_cmp_total}
pub use Rattle.std.specs.List.{AllByRecursion, HoldsAt, count_by, insert, list_all, list_any}
unfoldable pub use Rattle.std.specs.List.Sorted.{IsStrictlySortedBy}
pub use Rattle.std.specs.List.Sorted.{IsBinarySearchResult, IsNonDecreasingBy, IsPartitionPoint}
pub use Rattle.std.specs.Option.{option_map_or}
pub use Rattle.std.specs.Ordering.{is_eq, is_lt, nat_cmp, ordering_index, ordering_reverse, ordering_then}
pub use Rattle.std.specs.Result.{MatchResult}
pub use Rattle.std.specs.declared.cmp.Ordering.{Ordering}
pub use Rattle.std.specs.declared.cmp.Ordering.TheVariants.{Equal, Greater, Less}
pub use Rattle.toll_base.specs.Bytes.{Bytes, bytes_cmp, same_bytes}
pub use Rattle.toll_base.specs.MoveRows.{ArePlacesOf, HaveRows, key_cmp_at, rows_at}
pub use Rattle.toll_base.specs.SliceRules.{KeepsRules, batch_has_room, count_actuals, is_actual_of, row_fits}
unfoldable pub use Rattle.toll_base.specs.Table.{put_row, row_at}
pub use Rattle.toll_base.specs.Table.{IsInKeyOrder, has_room, insert_row, replace_row}
pub use Rattle.toll_base.specs.Words.{count, is_some_where, none_or}
pub use mathlib.Core.Bool.{false≢true}
