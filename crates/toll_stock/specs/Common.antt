-- Definitions of other crates that several definitions and contracts here use.
pub use Rattle.std.specs.Option.{unwrap_or}
pub use Rattle.toll_base.specs.Bytes.{bytes_cmp}
pub use Rattle.toll_base.specs.Changes.{changes_of}
pub use Rattle.toll_base.specs.Keys.{pair_cmp}
pub use Rattle.toll_base.specs.Table.{IsInKeyOrder}
pub use Rattle.toll_base.specs.declared.rows.LotRow.{LotRow}
pub use Rattle.toll_base.specs.declared.rows.Row.TheVariants.{Lot, Result, Sublot}
pub use Rattle.toll_history.specs.Amounts.{on_hand, shipped}
pub use Rattle.toll_history.specs.Command.{AddMaterial, AddTest, RecordResult, Reject, Release, by, moves}
pub use Rattle.toll_history.specs.Common.{Bytes, Disposition, KeepsRules, MoveRow, Quarantined, Slice, is_some_where, list_any, lot_at, lot_id, option_map, same_bytes, sublot_at, total, where_so}
pub use Rattle.toll_history.specs.Decision.{Decides, DecisionKeepsRules, IsDecided, verdict_of_result}
pub use Rattle.toll_history.specs.Dispositions.{is_outside}
pub use Rattle.toll_history.specs.History.{History}
pub use Rattle.toll_history.specs.Movements.{lot_made, stock, sublot_known}
pub use Rattle.toll_history.specs.OwnChanges.{PutsOnly}
pub use Rattle.toll_history.specs.OwnerFacts.{IsRowsOf, OwnerFacts, count_results_in, latest_in, facts_of}
pub use Rattle.toll_history.specs.Puts.{gained, less_in_sublot, puts_of}
pub use Rattle.toll_history.specs.Verdict.{Checks, IsLawful, amount_in, verdict_of_checks, is_released, key_checks, material_checks, movements_full, receive_checks, reject_checks, release_checks, result_checks, scrap_checks, ship_checks, split_checks, test_checks, tests_open}
