use Rattle.std.proofs.Common.{Ok, rules, subst}
use Rattle.toll_sql.proofs.Common.{state, IsMaking, IsNewDatabase, IsTransactionStep, no_schema}
use Rattle.toll_sql.proofs.Whole.{committed}
use Rattle.toll_sql.proofs.creating.create_or_none.Goals as goal

pub returns : goal.returns
returns g c =
    let old = state g.S.Store c.args.conn.now in
    let last = state g.S.Store c.make_all.new.tx.conn.now in
    let end = c.commit.new.self.0 in
    let begun = subst (λ h. IsTransactionStep (IsMaking no_schema) (λ _ s. IsNewDatabase s.now) (state g.S.Store h) last (Ok c.in_ok-make_all.field-0)) c.transaction-tx.ensures.begun c.in_ok-make_all.ensures.steps in
    let whole = committed (IsMaking no_schema) IsNewDatabase old last (state g.S.Store end) c.requires.settled c.in_ok-make_all.field-0 c.commit.result begun c.commit.ensures.ended c.commit.ensures.ok c.commit.ensures.err c.commit.ensures.survives in
    record { whole = search (rules, whole) }
