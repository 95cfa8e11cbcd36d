use Rattle.toll_sql.proofs.Common.{state, IsMaking, IsNewDatabase, IsShapedAs, MakesAllTables, WritesVersion, no_schema, made_all}
use Rattle.toll_sql.proofs.Fresh.{made_new, shaped_new}
use Rattle.toll_sql.proofs.StepLemmas.{step_in_turn}
use Rattle.toll_sql.proofs.creating.make_all.Goals as goal

pub returns-clause-steps : goal.returns-clause-steps
returns-clause-steps g c =
    let old = state g.S.Store c.args.tx.now.conn.now in
    let mid = state g.S.Store c.make_tables.new.tx.conn.now in
    let new = state g.S.Store c.write_version.new.tx.conn.now in
    step_in_turn (IsMaking no_schema) (IsShapedAs made_all) MakesAllTables WritesVersion (λ _ s. IsNewDatabase s.now) old mid new c.in_ok-make_tables.field-0 c.write_version.result (λ _. shaped_new old mid) (made_new old mid new) c.in_ok-make_tables.ensures.steps c.write_version.ensures.steps
