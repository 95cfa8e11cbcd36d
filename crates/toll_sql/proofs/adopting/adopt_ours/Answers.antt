use Rattle.std.proofs.Common.{rules}
use Rattle.toll_sql.proofs.Common.{state, first_version}
use Rattle.toll_sql.proofs.AdoptLemmas.{IsMisfit, other_version, this_version}
use Rattle.toll_sql.proofs.adopting.adopt_ours.Goals as goal

pub returns-then-eq : goal.returns-then-eq
returns-then-eq g c =
    let old = state g.S.Store c.args.conn.now in
    let new = state g.S.Store c.read_version.new.conn in
    let v = c.read_version.ensures in
    record { adopts = this_version old new c.requires.autocommit c.requires.settled c.requires.ours c.requires.unlimited c.in-Ok.stored_version c.read_version.result c.in-Ok.is v.asks v.found (search rules) (λ clean. v.reported clean c.requires.ours) }

pub returns-else-eq : goal.returns-else-eq
returns-else-eq g c =
    let old = state g.S.Store c.args.conn.now in
    let new = state g.S.Store c.read_version.new.conn in
    let v = c.read_version.ensures in
    let misfit : IsMisfit c.in-Ok.stored_version first_version c.misfit.result = record { damaged = c.misfit.ensures.damaged; foreign = c.misfit.ensures.foreign; known = c.misfit.ensures.known } in
    record { adopts = other_version old new c.requires.autocommit c.requires.settled c.requires.ours c.requires.unlimited c.in-Ok.stored_version c.read_version.result c.in-Ok.is v.asks v.found (search rules) (λ clean. v.version clean c.requires.ours) c.misfit.result misfit }
