use Rattle.std.proofs.Common.{◌∙◌}
use Rattle.toll_sql.proofs.Common.{state}
use Rattle.toll_sql.proofs.PutAgain.{made_all_of}
use Rattle.toll_sql.proofs.writing.put_all.Goals as goal

pub returns-clause-writes : goal.returns-clause-writes
returns-clause-writes g c =
    made_all_of c.args.changes.now c.deref.result.now (c.deref.ensures.value ∙ c.in_ok-last.ensures.last) c.in_ok-last.ensures.valid (state g.S.Store c.args.tx.now.conn.now) (state g.S.Store c.put_each-2.new.tx.conn.now) c.put_each-2.result
    c.put_each-2.ensures.writes
