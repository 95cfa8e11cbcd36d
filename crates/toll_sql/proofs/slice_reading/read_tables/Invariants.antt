use Rattle.std.proofs.Common.{◌≡◌}
use Rattle.sqlite.specs.Held.{state}
use Rattle.toll_sql.proofs.ReadOn.{HasRead}
use Rattle.toll_sql.proofs.slice_reading.read_tables.Given as goal

abbrev pub invariant-loop-table : goal.invariant-loop-table
invariant-loop-table g l = record {
  reads : HasRead l.table-index l.owner (state g.S.Store l.fn.conn) (state g.S.Store l.conn) l.fn.slice l.slice;
  named : l.slice.owner ≡ l.fn.slice.owner;
}
