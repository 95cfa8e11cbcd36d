use Rattle.std.proofs.Common.{◌≡◌, ◌+◌, Ok, Err, rules, subst, arith}
use Rattle.toll_sql.proofs.Common.{state, IsMaking, IsTransactionStep, MakesAllTables, no_schema}
use Rattle.toll_sql.proofs.MakeLemmas.{MakesFirst, next_step, none_yet}
use Rattle.toll_sql.proofs.StepLemmas.{step_with_other_answer, makes_more, stopped_at_first}
use Rattle.toll_sql.proofs.creating.make_tables.Goals as goal

pub loop-table-preserved : goal.loop-table-preserved
loop-table-preserved g c =
    let first = state g.S.Store c.args.tx.now.conn.now in
    let next = state g.S.Store c.make_table.new.tx.conn.now in
    let n = c.loop-table.table-index in
    let step = next_step _ c.every_table-table-items.ensures n c.loop-table-test.true first (state g.S.Store c.loop-table.tx.conn.now) next (Ok c.in_ok-make_table.field-0) c.loop-table.invariant.steps c.in_ok-make_table.ensures.steps in
    record { same_reference = search rules; steps = step_with_other_answer (IsMaking no_schema) (MakesFirst (n + 1)) first next c.in_ok-make_table.field-0 tt step }

pub returns-in_err-make_table-clause-steps : goal.returns-in_err-make_table-clause-steps
returns-in_err-make_table-clause-steps g c =
    let first = state g.S.Store c.args.tx.now.conn.now in
    let next = state g.S.Store c.make_table.new.tx.conn.now in
    let n = c.loop-table.table-index in
    let r = c.make_table.result in
    let step = next_step _ c.every_table-table-items.ensures n c.loop-table-test.true first (state g.S.Store c.loop-table.tx.conn.now) next r c.loop-table.invariant.steps c.make_table.ensures.steps in
    let is : c.from_residual.result ≡ Err c.in_err-make_table.field-0.0 = search rules in
    stopped_at_first (IsMaking no_schema) (MakesFirst (n + 1)) MakesAllTables first next c.in_err-make_table.field-0.0 r c.from_residual.result c.in_err-make_table.was is step

pub returns-clause-steps : goal.returns-clause-steps
returns-clause-steps g c =
    let first = state g.S.Store c.args.tx.now.conn.now in
    let last = state g.S.Store c.loop-table.tx.conn.now in
    let all : c.loop-table.table-index ≡ 14 = omega (arith, c.loop-table-test.false, c.loop-table.auto.table-index-end) in
    makes_more (IsMaking no_schema) (MakesFirst 14) MakesAllTables first last none_yet (λ _ h. record { making = h.making; empty = h.empty })
    (subst (λ n. IsTransactionStep (IsMaking no_schema) (MakesFirst n) first last none_yet) all c.loop-table.invariant.steps)
