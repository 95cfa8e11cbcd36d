-- Definitions of other crates that several definitions here use.
pub use Rattle.sqlite.specs.Collation.TheVariants.{Binary}
pub use Rattle.sqlite.specs.Effect.{Database, Reads, RefusesToRead}
pub use Rattle.sqlite.specs.Held.{Held, IsNew}
pub use Rattle.sqlite.specs.Order.{Row, column, row_cmp, value_cmp}
pub use Rattle.sqlite.specs.Schema.{Schema}
pub use Rattle.sqlite.specs.State.{HasCleanDisk, KeepsCommit, State, Survives}
pub use Rattle.sqlite.specs.Table.{Table}
pub use Rattle.sqlite.specs.Tree.{IsAscending, Trees}
pub use Rattle.sqlite.specs.declared.error.Error.{Error}
pub use Rattle.sqlite.specs.declared.error.Error.TheVariants.{SqliteFailure}
pub use Rattle.sqlite.specs.declared.types.Value.TheVariants.{Int, Null, Text}
pub use Rattle.sqlite_catalog.specs.Change.{KeepsRows}
pub use Rattle.sqlite_resolve.specs.declared.compiled.Compiled.{Compiled}
pub use Rattle.sqlite_schema.specs.Rules.{agree, guards}
pub use Rattle.sqlite_schema.specs.declared.schema.Column.{Column}
pub use Rattle.sqlite_schema.specs.declared.schema.Index.{Index}
pub use Rattle.sqlite_store.specs.declared.store.FileStore.{FileStore}
pub use Rattle.sqlite_trees.specs.View.{IsClean, IsShaped}
pub use Rattle.sqlite_value.specs.Keys.{plain}
pub use Rattle.sqlite_wal.specs.Recovery.{Image}
pub use Rattle.std.specs.List.{AllByRecursion}
pub use Rattle.std.specs.Ordering.{is_eq, is_lt, match_ordering, on}
pub use Rattle.std.specs.declared.cmp.Ordering.{Ordering}
pub use Rattle.toll_base.specs.Bytes.{Bytes, bytes_cmp, same_bytes}
pub use Rattle.toll_base.specs.Slice.{Slice, with_row}
pub use Rattle.toll_base.specs.Values.{IsAmount, IsBatchNo, IsDay, IsSegment, IsValue, house_name, is_measure, is_name, is_owner_key}
pub use Rattle.toll_base.specs.declared.lot.LotId.{LotId}
pub use Rattle.toll_base.specs.declared.lot.Origin.{Origin}
pub use Rattle.toll_base.specs.declared.lot.Origin.TheVariants.{Batch, Receipts}
pub use Rattle.toll_base.specs.declared.movement.Move.{Move}
pub use Rattle.toll_base.specs.declared.movement.Move.TheVariants.{Actual, Receive, Scrap, Ship, Split}
pub use Rattle.toll_base.specs.declared.movement.MoveRow.{MoveRow}
pub use Rattle.toll_base.specs.declared.role.Role.{Role}
pub use Rattle.toll_base.specs.declared.rows.BatchRow.{BatchRow}
pub use Rattle.toll_base.specs.declared.rows.LotRow.{LotRow}
pub use Rattle.toll_base.specs.declared.rows.MaterialRow.{MaterialRow}
pub use Rattle.toll_base.specs.declared.rows.OrderRow.{OrderRow}
pub use Rattle.toll_base.specs.declared.rows.OwnerRow.{OwnerRow}
pub use Rattle.toll_base.specs.declared.rows.RecipeRow.{RecipeRow}
pub use Rattle.toll_base.specs.declared.rows.RequirementRow.{RequirementRow}
pub use Rattle.toll_base.specs.declared.rows.ResultRow.{ResultRow}
pub use Rattle.toll_base.specs.declared.rows.SublotRow.{SublotRow}
pub use Rattle.toll_base.specs.declared.rows.TestRow.{TestRow}
pub use Rattle.toll_base.specs.declared.rows.UnitRow.{UnitRow}
pub use Rattle.toll_base.specs.declared.rows.VoidRow.{VoidRow}
pub use Rattle.toll_keep.specs.Content.{Content, empty_content}
pub use Rattle.toll_keep.specs.declared.keep_fault.KeepFault.{KeepFault}
pub use Rattle.toll_keep.specs.declared.keep_fault.KeepFault.TheVariants.{Closed, Damaged, Disk, Memory}
