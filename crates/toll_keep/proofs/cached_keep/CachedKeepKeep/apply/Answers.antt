use Rattle.std.proofs.Common.{◌≡◌, Err, rules, sym, subst, ◌∙◌}
use Rattle.toll_keep.proofs.Common.{content_after, IsNothing, IsCacheFor, IsCacheOf, MakesHeld, meaning_for}
use Rattle.toll_keep.proofs.Around.{cached_nothing_stands, goes_by, keeps_by, makes_by, nothing_for, nothing_of, of_some, told_stands, whole}
use Rattle.toll_keep.proofs.Outcomes.{of_ok, on_err_always}
use Rattle.toll_keep.proofs.RememberedLemmas.{only_known_after, only_known_for}
use Rattle.toll_keep.proofs.cached_keep.CachedKeepKeep.apply.Goals as goal

pub invariant_of-self : goal.invariant_of-self
invariant_of-self g c = cached_nothing_stands g.K.Keep _ _ (subst IsNothing (sym c.replace-cache.ensures.after) c.nothing.ensures)

pub returns-in_err-apply-clause-goes : goal.returns-in_err-apply-clause-goes
returns-in_err-apply-clause-goes g c =
    let is : c.from_residual.result ≡ Err c.in_err-apply.field-0.0 = search rules in
    goes_by g.K.Keep (whole g.K.Keep) c.args.self.now _ c.apply.result c.from_residual.result (is ∙ sym c.in_err-apply.was) c.apply.ensures.goes

pub returns-in_err-apply-clause-crash : goal.returns-in_err-apply-clause-crash
returns-in_err-apply-clause-crash g c = λ honest lives content held. c.apply.ensures.crash honest lives content held.0

pub returns-in_err-apply-clause-all : goal.returns-in_err-apply-clause-all
returns-in_err-apply-clause-all g c = λ honest content held fits.
    let is : c.from_residual.result ≡ Err c.in_err-apply.field-0.0 = search rules in
    rw is tt

pub returns-in_err-apply-clause-none : goal.returns-in_err-apply-clause-none
returns-in_err-apply-clause-none g c = λ honest content held.
    on_err_always c.from_residual.result (c.in_err-apply.ensures.none honest content held.0, nothing_of content _ (subst IsNothing (sym c.replace-cache.ensures.after) c.nothing.ensures), held.2)

pub returns-in_err-apply-clause-whole : goal.returns-in_err-apply-clause-whole
returns-in_err-apply-clause-whole g c = λ honest content held kept damaged.
    let is : c.from_residual.result ≡ Err c.in_err-apply.field-0.0 = search rules in
    c.in_err-apply.ensures.whole honest content held.0 kept (sym is ∙ damaged)

pub returns-then-is_ok-clause-whole : goal.returns-then-is_ok-clause-whole
returns-then-is_ok-clause-whole g c = λ honest content held kept damaged. absurd (cc damaged)

pub returns-else-is_ok-clause-whole : goal.returns-else-is_ok-clause-whole
returns-else-is_ok-clause-whole g c = λ honest content held kept damaged. absurd (cc damaged)

pub invariant_of-self-then-is_ok : goal.invariant_of-self-then-is_ok
invariant_of-self-then-is_ok g c = told_stands g.K.Keep c.args.self.now.keep _ _ _ tt c.in_ok-apply.ensures.goes

pub invariant_of-self-else-is_ok : goal.invariant_of-self-else-is_ok
invariant_of-self-else-is_ok g c = cached_nothing_stands g.K.Keep _ _ (subst IsNothing (sym c.replace-cache.ensures.after) c.nothing.ensures)

pub returns-then-is_ok-clause-goes : goal.returns-then-is_ok-clause-goes
returns-then-is_ok-clause-goes g c = goes_by g.K.Keep (whole g.K.Keep) c.args.self.now _ c.apply.result _ (sym c.in_ok-apply.was) c.apply.ensures.goes

pub returns-then-is_ok-clause-all : goal.returns-then-is_ok-clause-all
returns-then-is_ok-clause-all g c = λ honest content held fits.
    let followed = of_ok c.follow.result (sym c.is_ok.ensures.value ∙ c.if-is_ok.true) c.follow.ensures.all in
    (c.in_ok-apply.ensures.all honest content held.0 fits, followed content (subst (IsCacheOf content) (sym c.replace-cache.ensures.value) held.1), only_known_after c.args.changes.now content fits held.2)

pub returns-then-is_ok-clause-crash : goal.returns-then-is_ok-clause-crash
returns-then-is_ok-clause-crash g c = λ honest lives content held. c.apply.ensures.crash honest lives content held.0

pub returns-else-is_ok-clause-goes : goal.returns-else-is_ok-clause-goes
returns-else-is_ok-clause-goes g c = goes_by g.K.Keep (whole g.K.Keep) c.args.self.now _ c.apply.result _ (sym c.in_ok-apply.was) c.apply.ensures.goes

pub returns-else-is_ok-clause-all : goal.returns-else-is_ok-clause-all
returns-else-is_ok-clause-all g c = λ honest content held fits.
    (c.in_ok-apply.ensures.all honest content held.0 fits, nothing_of (content_after c.args.changes.now content) _ (subst IsNothing (sym c.replace-cache.ensures.after) c.nothing.ensures), only_known_after c.args.changes.now content fits held.2)

pub returns-else-is_ok-clause-crash : goal.returns-else-is_ok-clause-crash
returns-else-is_ok-clause-crash g c = λ honest lives content held. c.apply.ensures.crash honest lives content held.0

pub returns-in_err-apply-clause-alone : goal.returns-in_err-apply-clause-alone
returns-in_err-apply-clause-alone g c = λ os.
    let is : c.from_residual.result ≡ Err c.in_err-apply.field-0.0 = search rules in
    let empty = subst IsNothing (sym c.replace-cache.ensures.after) c.nothing.ensures in
    let makes = subst (λ answer. MakesHeld (meaning_for g.K.Keep.meaning g.K.Keep.part os) c.args.self.now.keep c.apply.new.self answer c.args.changes.now) (c.in_err-apply.was ∙ sym is) (c.apply.ensures.alone os) in
    makes_by g.K.Keep (of_some g.K.Keep os) (g.met.K.Keep.settled_for os) c.args.self.now _ c.from_residual.result c.args.changes.now
    (λ honest content held of only fits. rw is tt)
    (λ honest content held of only. on_err_always c.from_residual.result (nothing_for os content _ empty, only))
    makes

pub returns-in_err-apply-clause-others : goal.returns-in_err-apply-clause-others
returns-in_err-apply-clause-others g c = λ os outside.
    let is : c.from_residual.result ≡ Err c.in_err-apply.field-0.0 = search rules in
    let empty = subst IsNothing (sym c.replace-cache.ensures.after) c.nothing.ensures in
    keeps_by g.K.Keep (of_some g.K.Keep os) c.args.self.now _ c.apply.result c.from_residual.result (is ∙ sym c.in_err-apply.was)
    (λ honest content held of only. nothing_for os content _ empty)
    (c.apply.ensures.others os outside)

pub returns-then-is_ok-clause-alone : goal.returns-then-is_ok-clause-alone
returns-then-is_ok-clause-alone g c = λ os.
    let followed = of_ok c.follow.result (sym c.is_ok.ensures.value ∙ c.if-is_ok.true) c.follow.ensures.alone in
    makes_by g.K.Keep (of_some g.K.Keep os) (g.met.K.Keep.settled_for os) c.args.self.now _ _ c.args.changes.now
    (λ honest content held of only fits. (followed os content (subst (IsCacheFor os content) (sym c.replace-cache.ensures.value) of), only_known_for os c.args.changes.now content fits only))
    (λ honest content held of only. tt)
    (c.in_ok-apply.ensures.alone os)

pub returns-then-is_ok-clause-others : goal.returns-then-is_ok-clause-others
returns-then-is_ok-clause-others g c = λ os outside.
    let followed = of_ok c.follow.result (sym c.is_ok.ensures.value ∙ c.if-is_ok.true) c.follow.ensures.others in
    keeps_by g.K.Keep (of_some g.K.Keep os) c.args.self.now _ c.apply.result _ (sym c.in_ok-apply.was)
    (λ honest content held of only. followed os content outside (subst (IsCacheFor os content) (sym c.replace-cache.ensures.value) of))
    (c.apply.ensures.others os outside)

pub returns-else-is_ok-clause-alone : goal.returns-else-is_ok-clause-alone
returns-else-is_ok-clause-alone g c = λ os.
    let empty = subst IsNothing (sym c.replace-cache.ensures.after) c.nothing.ensures in
    makes_by g.K.Keep (of_some g.K.Keep os) (g.met.K.Keep.settled_for os) c.args.self.now _ _ c.args.changes.now
    (λ honest content held of only fits. (nothing_for os (content_after c.args.changes.now content) _ empty, only_known_for os c.args.changes.now content fits only))
    (λ honest content held of only. tt)
    (c.in_ok-apply.ensures.alone os)

pub returns-else-is_ok-clause-others : goal.returns-else-is_ok-clause-others
returns-else-is_ok-clause-others g c = λ os outside.
    let empty = subst IsNothing (sym c.replace-cache.ensures.after) c.nothing.ensures in
    keeps_by g.K.Keep (of_some g.K.Keep os) c.args.self.now _ c.apply.result _ (sym c.in_ok-apply.was)
    (λ honest content held of only. nothing_for os content _ empty)
    (c.apply.ensures.others os outside)
