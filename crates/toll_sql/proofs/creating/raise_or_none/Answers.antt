use Rattle.std.proofs.Common.{Ok, rules, subst}
use Rattle.toll_sql.proofs.Common.{state, IsShapedAs, IsTransactionStep, Raised, first_ours}
use Rattle.toll_sql.proofs.StepLemmas.{makes_more}
use Rattle.toll_sql.proofs.Whole.{committed}
use Rattle.toll_sql.proofs.creating.raise_or_none.Goals as goal

pub returns : goal.returns
returns g c =
    let old = state g.S.Store c.args.conn.now in
    let last = state g.S.Store c.raise.new.tx.conn.now in
    let end = c.commit.new.self.0 in
    let begun = subst (λ h. IsTransactionStep (IsShapedAs first_ours) (λ a b. Raised a.now b.now) (state g.S.Store h) last (Ok c.in_ok-raise.field-0)) c.transaction-tx.ensures.begun c.in_ok-raise.ensures.steps in
    let step = makes_more (IsShapedAs first_ours) (λ a b. Raised a.now b.now) (λ _ b. Raised old.now b.now) _ last (Ok c.in_ok-raise.field-0) (λ _ h. h) begun in
    let whole = committed (IsShapedAs first_ours) (Raised old.now) old last (state g.S.Store end) c.requires.settled c.in_ok-raise.field-0 c.commit.result step c.commit.ensures.ended c.commit.ensures.ok c.commit.ensures.err c.commit.ensures.survives in
    record { whole = search (rules, whole) }
