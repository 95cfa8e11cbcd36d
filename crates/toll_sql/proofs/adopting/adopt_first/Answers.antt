use Rattle.std.proofs.Common.{rules}
use Rattle.toll_sql.proofs.Common.{state}
use Rattle.toll_sql.proofs.RaiseLemmas.{all_adopted, raise_other_first}
use Rattle.toll_sql.proofs.adopting.adopt_first.Goals as goal

pub returns-then-eq : goal.returns-then-eq
returns-then-eq g c =
    let old = state g.S.Store c.args.conn.now in
    let mid = state g.S.Store c.read_first_version.new.conn in
    let v = c.read_first_version.ensures in
    record { adopts = all_adopted old mid c.requires.first c.requires.unlimited c.in-Ok.stored_version c.read_first_version.result c.in-Ok.is v.left (search rules) v.reported v.unchanged (state g.S.Store c.raise_all.new.conn) c.raise_all.result c.raise_all.ensures.brings }

pub returns-else-eq : goal.returns-else-eq
returns-else-eq g c =
    let old = state g.S.Store c.args.conn.now in
    let mid = state g.S.Store c.read_first_version.new.conn in
    let v = c.read_first_version.ensures in
    record { adopts = raise_other_first old mid c.requires.first c.requires.unlimited c.in-Ok.stored_version c.read_first_version.result c.in-Ok.is v.left (search rules) v.version v.found c.misfit.result (record { damaged = c.misfit.ensures.damaged; foreign = c.misfit.ensures.foreign; known = c.misfit.ensures.known }) }
