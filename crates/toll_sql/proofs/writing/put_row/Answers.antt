use Rattle.std.proofs.Common.{sym, subst}
use Rattle.toll_sql.proofs.Common.{state, bound, Put, IsReady, IsTransactionStep, MakesPuts, PutsChange}
use Rattle.toll_base.specs.declared.rows.Row.TheVariants.{Move}
use Rattle.toll_sql.proofs.ChangeLemmas.{as_change}
use Rattle.toll_sql.proofs.writing.put_row.Goals as goal

pub returns-in-Move-clause-writes : goal.returns-in-Move-clause-writes
returns-in-Move-clause-writes g c =
    let old = state g.S.Store c.args.tx.now.conn.now in
    let new = state g.S.Store c.put-in-Move.new.tx.conn.now in
    let writes = as_change (Put c.args.owner.now (Move c.in-Move.row)) old new c.move_values.ensures.valid (bound c.move_values.result) c.put-in-Move.result c.move_values.ensures.cells c.put-in-Move.ensures.writes in
    subst (λ row. IsTransactionStep IsReady (MakesPuts (PutsChange (Put c.args.owner.now row))) old new c.put-in-Move.result) (sym c.in-Move.is) writes
