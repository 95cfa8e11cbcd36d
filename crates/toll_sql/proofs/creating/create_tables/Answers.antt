use Rattle.std.proofs.Common.{rules, subst}
use Rattle.toll_sql.proofs.Common.{state, IsMaking, IsNewDatabase, IsWholeOrNothing, no_schema}
use Rattle.toll_sql.proofs.OverLemmas.{created, failed_with, made_ok, not_created}
use Rattle.toll_sql.proofs.creating.create_tables.Goals as goal

pub returns-in-Ok : goal.returns-in-Ok
returns-in-Ok g c =
    let new = state g.S.Store c.create_or_none.new.conn in
    let whole = subst (λ h. IsWholeOrNothing (IsMaking no_schema) IsNewDatabase (state g.S.Store h) new made_ok) c.set_step_limit.ensures c.in-Ok.ensures.whole in
    record { creates = created (state g.S.Store c.args.conn.now) new (search rules) (search rules) whole }

pub returns-in-Err : goal.returns-in-Err
returns-in-Err g c =
    let new = state g.S.Store c.create_or_none.new.conn in
    let whole = subst (λ h. IsWholeOrNothing (IsMaking no_schema) IsNewDatabase (state g.S.Store h) new (failed_with (Unit {0}) c.in-Err.error)) c.set_step_limit.ensures c.in-Err.ensures.whole in
    record { creates = not_created (state g.S.Store c.args.conn.now) new (search rules) (search rules) c.in-Err.error c.open_fault_of.result c.open_fault_of.ensures whole }
