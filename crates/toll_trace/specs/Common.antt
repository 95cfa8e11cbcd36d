-- Definitions of other crates that several definitions here use.
pub use Rattle.std.specs.List.{filter_map, list_any}
pub use Rattle.std.specs.List.Sorted.{IsStrictlySortedBy}
pub use Rattle.std.specs.Ordering.{is_eq, nat_cmp, ordering_then}
pub use Rattle.std.specs.declared.cmp.Ordering.{Ordering}
pub use Rattle.toll_base.specs.Bytes.{Bytes, same_bytes}
pub use Rattle.toll_base.specs.Lots.{edge_cmp, lot_cmp, same_lot}
pub use Rattle.toll_base.specs.Slice.{Slice, move_at, void_at}
pub use Rattle.toll_base.specs.declared.lot.Edge.{Edge}
pub use Rattle.toll_base.specs.declared.lot.LotId.{LotId}
pub use Rattle.toll_base.specs.declared.movement.Move.TheVariants.{Actual}
pub use Rattle.toll_base.specs.declared.movement.MoveRow.{MoveRow}
pub use Rattle.toll_base.specs.declared.role.Role.{Role}
