use Rattle.std.proofs.Common.{take, [], ◌∷◌, ◌++◌, subst, sym, ap, ◌∙◌}
use Rattle.toll_desk.proofs.Common.{IsReading, take_all, take_more, of_ok, read_ok, read_fault}
use Rattle.toll_desk.specs.Questions.{AreSlicesFor}
use Rattle.toll_desk.proofs.RecallLines.{one_slice, passed_on}
use Rattle.toll_desk.proofs.recalls.slices_of.Goals as goal

pub loop-step-init : goal.loop-step-init
loop-step-init g c = (
  λ first have. have,
  λ honest. (honest, λ content held. held),
  λ honest content H held stands lawful rows.
      subst (AreSlicesFor H []) (sym (of_ok c.add_totals.result c.if-is_err.ensures.negation c.add_totals.ensures ∙ ap (λ xs. xs ++ c.args.own ∷ []) c.new-slices.ensures.items)) (one_slice H c.args.own rows),
)

pub returns-in_err-add_slice-clause-reads : goal.returns-in_err-add_slice-clause-reads
returns-in_err-add_slice-clause-reads g c first have =
    let was = c.in_err-add_slice.ensures.reads first (c.loop-step.invariant.0 first have) in
    let is = passed_on c.from_residual.result c.in_err-add_slice.field-0.0 c.from_residual.ensures.1 in
    subst (λ r. IsReading g.K.Keep.meaning first c.add_slice.new.keep r) (sym is)
    (read_fault g.K.Keep.meaning first c.add_slice.new.keep c.in_err-add_slice.field-0.0 was.goes was.keeps was.whole)

pub loop-step-preserved : goal.loop-step-preserved
loop-step-preserved g c =
    let before = c.loop-step.invariant in (
      λ first have. c.in_ok-add_slice.ensures.reads first (before.0 first have),
      λ honest. let kept = c.add_slice.ensures.kept honest in let earlier = before.1 kept.0 in (earlier.0, λ content held. kept.1 content (earlier.1 content held)),
      λ honest content H held stands lawful rows.
          let kept = c.add_slice.ensures.kept honest in
          let earlier = before.1 kept.0 in
          subst (λ steps. AreSlicesFor H steps c.add_slice.new.slices.items) (sym (take_more c.args.steps.now c.loop-step.step-index c.step-item.result c.loop-step-test.true ∙ ap (λ t. take c.loop-step.step-index c.args.steps.now ++ t ∷ []) (sym c.step-item.is)))
          (c.in_ok-add_slice.ensures.over honest content H (earlier.1 content held) stands lawful (take c.loop-step.step-index c.args.steps.now) (before.2 kept.0 content H held stands lawful rows)),
    )

pub returns-clause-reads : goal.returns-clause-reads
returns-clause-reads g c first have =
    let now = c.loop-step.invariant.0 first have in
    read_ok g.K.Keep.meaning first c.loop-step.keep _ _ now.goes now.keeps

pub returns-clause-over : goal.returns-clause-over
returns-clause-over g c honest content H held stands lawful rows =
    subst (λ steps. AreSlicesFor H steps c.loop-step.slices.items) (take_all c.loop-step.step-index c.args.steps.now c.loop-step-test.false) (c.loop-step.invariant.2 honest content H held stands lawful rows)

pub returns-clause-kept : goal.returns-clause-kept
returns-clause-kept g c honest = c.loop-step.invariant.1 honest
