-- Definitions of other crates that several definitions here use.
pub use Rattle.std.specs.List.{list_any}
pub use Rattle.std.specs.Option.{option_map, option_map_or}
pub use Rattle.toll_base.specs.Bytes.{Bytes, same_bytes}
pub use Rattle.toll_base.specs.Keys.{RequirementKey, requirement_cmp}
pub use Rattle.toll_base.specs.Lots.{lot_id, same_lot}
pub use Rattle.toll_base.specs.Roles.{same_role}
pub use Rattle.toll_base.specs.Rows.{lot_row_of, placed_row, placing_of, sublot_row_of}
pub use Rattle.toll_base.specs.Slice.{Slice, batch_at, lot_at, material_at, move_at, order_at, recipe_at, requirement_at, result_at, sublot_at, test_at, void_at}
pub use Rattle.toll_base.specs.SliceRules.{KeepsRules, count_actuals, is_actual_of}
pub use Rattle.toll_base.specs.States.{followed, is_idle, may_close, next_state}
pub use Rattle.toll_base.specs.Values.{IsAmount, IsBatchNo, house_name}
pub use Rattle.toll_base.specs.Words.{count, first_some, is_some_where, or_else, total, where_so}
pub use Rattle.toll_base.specs.declared.capacity.TheConstants.{MOST_ACTUALS, MOST_LOTS, MOST_MATERIALS, MOST_MOVEMENTS, MOST_ORDERS, MOST_OWNERS, MOST_RECIPES, MOST_REQUIREMENTS, MOST_RESULTS, MOST_STOCK, MOST_SUBLOTS, MOST_TESTS, MOST_UNITS}
pub use Rattle.toll_base.specs.declared.decision.Change.{Change}
pub use Rattle.toll_base.specs.declared.decision.Change.TheVariants.{Put}
pub use Rattle.toll_base.specs.declared.lot.Disposition.{Disposition}
pub use Rattle.toll_base.specs.declared.lot.Disposition.TheVariants.{Quarantined, Rejected, Released}
pub use Rattle.toll_base.specs.declared.lot.LotId.{LotId}
pub use Rattle.toll_base.specs.declared.lot.Origin.{Origin}
pub use Rattle.toll_base.specs.declared.lot.Origin.TheVariants.{Batch, Receipts}
pub use Rattle.toll_base.specs.declared.movement.Move.{Move}
pub use Rattle.toll_base.specs.declared.movement.Move.TheVariants.{Actual, Receive, Scrap, Ship, Split}
pub use Rattle.toll_base.specs.declared.movement.MoveRow.{MoveRow}
pub use Rattle.toll_base.specs.declared.refusal.Refusal.{Refusal}
pub use Rattle.toll_base.specs.declared.refusal.Refusal.TheVariants.{LimitReached}
pub use Rattle.toll_base.specs.declared.role.Role.{Role}
pub use Rattle.toll_base.specs.declared.role.Role.TheVariants.{Consumed, Produced}
pub use Rattle.toll_base.specs.declared.rows.BatchRow.{BatchRow}
pub use Rattle.toll_base.specs.declared.rows.MaterialRow.{MaterialRow}
pub use Rattle.toll_base.specs.declared.rows.OrderRow.{OrderRow}
pub use Rattle.toll_base.specs.declared.rows.Placing.{Placing}
pub use Rattle.toll_base.specs.declared.rows.RecipeRow.{RecipeRow}
pub use Rattle.toll_base.specs.declared.rows.RequirementRow.{RequirementRow}
pub use Rattle.toll_base.specs.declared.rows.ResultRow.{ResultRow}
pub use Rattle.toll_base.specs.declared.rows.SublotRow.{SublotRow}
pub use Rattle.toll_base.specs.declared.rows.TestRow.{TestRow}
pub use Rattle.toll_base.specs.declared.state.State.{State}
pub use Rattle.toll_base.specs.declared.state_command.StateCommand.{StateCommand}
