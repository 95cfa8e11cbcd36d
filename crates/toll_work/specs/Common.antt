-- Definitions of other crates that several definitions and contracts here use.
pub use Rattle.std.specs.Option.{option_and_then}
pub use Rattle.toll_base.specs.Bytes.{bytes_cmp}
pub use Rattle.toll_base.specs.Changes.{changes_of}
pub use Rattle.toll_base.specs.States.{word_of_state}
pub use Rattle.toll_base.specs.Table.{AreRowsGiven, IsInKeyOrder}
pub use Rattle.toll_base.specs.declared.decision.Decision.{Decision}
pub use Rattle.toll_base.specs.declared.refusal.Refusal.TheVariants.{BadSegment, BatchClosed, BatchIdle, CrossOwner, NotEnough, NotInRecipe, Voided}
pub use Rattle.toll_base.specs.declared.rows.Row.TheVariants.{Lot, Move, Order, Requirement, Sublot, Void}
pub use Rattle.toll_history.specs.Bounds.{lot_bounds, returning_bounds}
pub use Rattle.toll_history.specs.Command.{AddRecipe, CancelOrder, CloseBatch, CommandBatch, OpenBatch, PlaceOrder, Record, Require, by}
pub use Rattle.toll_history.specs.Common.{BatchRow, Bytes, Consumed, KeepsRules, LimitReached, MoveRow, OrderRow, Placing, Produced, RequirementKey, RequirementRow, Slice, batch_at, followed, is_actual_of, is_idle, is_some_where, move_at, next_state, option_map_or, order_at, placed_row, recipe_at, requirement_at, requirement_cmp, same_bytes, total, void_at, where_so}
pub use Rattle.toll_history.specs.Decision.{Decides, DecidesWith, DecisionKeepsRules, IsDecided, IsRightOver, verdict_of_result}
pub use Rattle.toll_history.specs.History.{History, acts, owner_known, unit_known}
pub use Rattle.toll_history.specs.OwnChanges.{PutsOnly, PutsOnlyWith, sublot_named}
pub use Rattle.toll_history.specs.OwnerFacts.{IsRowsOf, OwnerFacts, facts_of}
pub use Rattle.toll_history.specs.Puts.{gained, less_in_sublot, puts_of}
pub use Rattle.toll_history.specs.Verdict.{Checks, IsLawful, actual_checks, actuals_full, amount_in, batch_command_checks, cancel_checks, close_checks, consumed_checks, crosses, verdict_of_checks, is_actual, key_checks, open_batch_checks, open_checks, order_checks, produced_checks, recipe_checks, recipe_of_order, requirement_checks, requirement_key, uncancelled_order_checks, tables_for}
