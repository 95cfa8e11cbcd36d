use Rattle.sqlite.specs.Held.{state}
use Rattle.toll_sql.proofs.OpenLemmas.{found_open, not_found}
use Rattle.toll_sql.proofs.queries.find_open.Goals as goal

pub returns-in-Ok-clause-finds : goal.returns-in-Ok-clause-finds
returns-in-Ok-clause-finds g c = found_open (state g.S.Store c.args.conn.now) (state g.S.Store c.prepare.new.self) c.prepare.ensures.mode c.prepare.ensures.survives (λ clean. (c.in-Ok.ensures.ok clean).1)

pub returns-in-Err-clause-finds : goal.returns-in-Err-clause-finds
returns-in-Err-clause-finds g c = not_found (state g.S.Store c.args.conn.now) (state g.S.Store c.prepare.new.self) c.prepare.ensures.mode c.prepare.ensures.survives _ c.in-Err.error c.fault_of.result c.fault_of.ensures.fault c.in-Err.ensures.err
