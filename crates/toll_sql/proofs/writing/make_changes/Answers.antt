use Rattle.sqlite.specs.Held.{state}
use Rattle.toll_sql.proofs.Applied.{change_applies, leaves_put}
use Rattle.toll_sql.proofs.writing.make_changes.Goals as goal

pub returns-in-Ok-clause-all : goal.returns-in-Ok-clause-all
returns-in-Ok-clause-all g c = change_applies c.args.changes.now (state g.S.Store c.args.conn.now) (state g.S.Store c.put_or_none.new.conn) _ c.in-Ok.ensures.whole

pub returns-in-Ok-clause-crash : goal.returns-in-Ok-clause-crash
returns-in-Ok-clause-crash g c = leaves_put c.args.changes.now (state g.S.Store c.args.conn.now) (state g.S.Store c.put_or_none.new.conn) _ c.in-Ok.ensures.whole

pub returns-in-Err-clause-crash : goal.returns-in-Err-clause-crash
returns-in-Err-clause-crash g c = leaves_put c.args.changes.now (state g.S.Store c.args.conn.now) (state g.S.Store c.put_or_none.new.conn) _ c.in-Err.ensures.whole
