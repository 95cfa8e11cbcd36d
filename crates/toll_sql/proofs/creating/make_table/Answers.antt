use Rattle.std.proofs.Common.{[], ap, subst}
use Rattle.toll_sql.proofs.Common.{state, ExecutesInside}
use Rattle.toll_sql.proofs.MakeLemmas.{table_step}
use Rattle.toll_sql.proofs.creating.make_table.Goals as goal

pub returns-clause-steps : goal.returns-clause-steps
returns-clause-steps g c =
    let old = state g.S.Store c.args.tx.now.conn.now in
    let new = state g.S.Store c.execute.new.self.conn.now in
    table_step c.args.table old new c.execute.result (λ without. ap (state g.S.Store) (c.execute.ensures.ended without).1)
    (λ clean within. subst (λ text. ExecutesInside 0 text [] old new c.execute.result) c.create_text.ensures (c.execute.ensures.runs clean within)) c.execute.ensures.survives
