use Rattle.std.proofs.Common.{◌≡◌}
use Rattle.toll_sql.proofs.Common.{state, IsMaking, IsTransactionStep, no_schema}
use Rattle.toll_sql.proofs.MakeLemmas.{MakesFirst, none_yet}
use Rattle.toll_sql.proofs.creating.make_tables.Given as goal

abbrev pub invariant-loop-table : goal.invariant-loop-table
invariant-loop-table g l = record {
  same_reference : l.tx.conn.ghost_name ≡ l.fn.tx.conn.ghost_name;
  steps : IsTransactionStep (IsMaking no_schema) (MakesFirst l.table-index) (state g.S.Store l.fn.tx.conn.now) (state g.S.Store l.tx.conn.now) none_yet;
}
