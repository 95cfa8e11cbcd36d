use Rattle.toll_sql.proofs.Common.{state, IsMaking, IsShapedAs, MakesTable, WritesVersion, Raised, first_ours, made_all, Voids}
use Rattle.toll_sql.proofs.Raising.{raised, raised_shaped}
use Rattle.toll_sql.proofs.StepLemmas.{step_from_more, step_in_turn}
use Rattle.toll_sql.proofs.creating.raise.Goals as goal

pub returns-clause-steps : goal.returns-clause-steps
returns-clause-steps g c =
    let old = state g.S.Store c.args.tx.now.conn.now in
    let mid = state g.S.Store c.make_table.new.tx.conn.now in
    let new = state g.S.Store c.write_version.new.tx.conn.now in
    step_in_turn (IsShapedAs first_ours) (IsShapedAs made_all) (MakesTable Voids) WritesVersion (λ a b. Raised a.now b.now) old mid new c.in_ok-make_table.field-0 c.write_version.result (raised_shaped old mid) (raised old mid new)
    (step_from_more (IsMaking first_ours) (IsShapedAs first_ours) (MakesTable Voids) old mid _ (λ h. h.making) c.in_ok-make_table.ensures.steps) c.write_version.ensures.steps
