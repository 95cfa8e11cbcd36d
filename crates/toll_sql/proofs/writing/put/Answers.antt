use Rattle.std.proofs.Common.{Ok, Err, ap, subst}
use Rattle.toll_sql.proofs.Common.{state, ExecutesInside, bound}
use Rattle.toll_sql.proofs.WriteLemmas.{writes_row, writes_uncounted}
use Rattle.toll_sql.proofs.writing.put.Goals as goal

pub returns-in-Ok-clause-writes : goal.returns-in-Ok-clause-writes
returns-in-Ok-clause-writes g c fits =
    let old = state g.S.Store c.args.tx.now.conn.now in
    let new = state g.S.Store c.execute.new.self.conn.now in
    let cells = bound c.args.cells.now in
    let r = Ok c.in-Ok.field-0 in
    writes_uncounted r (writes_row c.args.table cells fits old new r (λ without. ap (state g.S.Store) (c.in-Ok.ensures.ended without).1)
    (λ clean within. subst (λ text. ExecutesInside 0 text cells old new r) c.put_text.ensures (c.in-Ok.ensures.runs clean within)) c.in-Ok.ensures.survives)

pub returns-in-Err-clause-writes : goal.returns-in-Err-clause-writes
returns-in-Err-clause-writes g c fits =
    let old = state g.S.Store c.args.tx.now.conn.now in
    let new = state g.S.Store c.execute.new.self.conn.now in
    let cells = bound c.args.cells.now in
    let r = Err c.in-Err.error in
    writes_uncounted r (writes_row c.args.table cells fits old new r (λ without. ap (state g.S.Store) (c.in-Err.ensures.ended without).1)
    (λ clean within. subst (λ text. ExecutesInside 0 text cells old new r) c.put_text.ensures (c.in-Err.ensures.runs clean within)) c.in-Err.ensures.survives)
