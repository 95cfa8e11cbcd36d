-- Definitions of other crates that several definitions and contracts here use.
pub use Rattle.std.specs.Global.{Global}
pub use Rattle.std.specs.List.{AllByRecursion, list_any}
pub use Rattle.toll_base.specs.Bytes.{Bytes, bytes_cmp, same_bytes}
pub use Rattle.toll_base.specs.Changes.{after_change, after_changes}
pub use Rattle.toll_base.specs.Slice.{Slice, batch_at, empty_slice, with_row}
pub use Rattle.toll_base.specs.SliceRules.{KeepsRules}
pub use Rattle.toll_base.specs.Table.{put_row, row_at}
pub use Rattle.toll_base.specs.declared.decision.Change.{Change}
pub use Rattle.toll_base.specs.declared.decision.Change.TheVariants.{Owner, Put, Unit}
pub use Rattle.toll_base.specs.declared.rows.OwnerRow.{OwnerRow}
pub use Rattle.toll_base.specs.declared.rows.UnitRow.{UnitRow}
pub use Rattle.toll_trace.specs.Edges.{AreEdges, IsEdge}
