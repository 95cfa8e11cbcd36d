use Rattle.std.proofs.Common.{refl, subst}
use Rattle.toll_sql.proofs.Common.{state, IsShapedAs, WritesVersion, meta_cells, version, IsReady, MakesPuts, PutsRow, WritesRow, made_all, Meta}
use Rattle.toll_sql.proofs.MakeLemmas.{make_ready, version_written}
use Rattle.toll_sql.proofs.StepLemmas.{step_from_more, makes_more}
use Rattle.toll_sql.proofs.creating.write_version.Goals as goal

pub returns-clause-steps : goal.returns-clause-steps
returns-clause-steps g c =
    let old = state g.S.Store c.args.tx.now.conn.now in
    let new = state g.S.Store c.put.new.tx.conn.now in
    let r = c.put.result in
    let row = MakesPuts (PutsRow Meta (meta_cells version)) in
    let put = subst (λ cells. WritesRow Meta cells old new r) c.meta_values.ensures.cells c.put.ensures.writes refl in
    makes_more (IsShapedAs made_all) row WritesVersion old new r (version_written old new) (step_from_more IsReady (IsShapedAs made_all) row old new r (make_ready old) put)
