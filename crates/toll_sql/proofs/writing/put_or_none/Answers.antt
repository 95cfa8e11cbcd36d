use Rattle.std.proofs.Common.{Ok, IsTrue, rules, subst}
use Rattle.toll_sql.proofs.Common.{state, HasCleanDisk, IsApplied, IsReady, IsTransactionStep, LiesIdle, MakesPuts, PutsAll}
use Rattle.toll_sql.proofs.Applied.{applied_all}
use Rattle.toll_sql.proofs.StepLemmas.{makes_more}
use Rattle.toll_sql.proofs.Whole.{committed}
use Rattle.toll_sql.proofs.writing.put_or_none.Goals as goal

pub returns : goal.returns
returns g c =
    let changes = c.args.changes.now in
    let old = state g.S.Store c.args.conn.now in
    let last = state g.S.Store c.put_all.new.tx.conn.now in
    let end = c.commit.new.self.0 in
    let auto : IsTrue c.is_autocommit-autocommit.result = search rules in
    let idle : HasCleanDisk old → LiesIdle old = λ _. c.is_autocommit-autocommit.ensures.settled auto in
    let begun = subst (λ h. IsTransactionStep IsReady (MakesPuts (PutsAll changes)) (state g.S.Store h) last (Ok c.in_ok-put_all.field-0)) c.transaction-tx.ensures.begun c.in_ok-put_all.ensures.writes in
    let step = makes_more IsReady (MakesPuts (PutsAll changes)) (λ _ b. IsApplied changes old.now b.now) _ last (Ok c.in_ok-put_all.field-0) (λ _. applied_all changes _ last) begun in
    let whole = committed IsReady (IsApplied changes old.now) old last (state g.S.Store end) idle c.in_ok-put_all.field-0 c.commit.result step c.commit.ensures.ended c.commit.ensures.ok c.commit.ensures.err c.commit.ensures.survives in
    record { whole = search (rules, whole) }
