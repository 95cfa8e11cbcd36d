use Rattle.std.proofs.Common.{[], ◌∷◌, ◌++◌, sym, ap, subst, ◌∙◌}
use Rattle.std.specs.Prelude.{position}
use Rattle.toll_desk.proofs.Common.{is_slice_of, of_ok}
use Rattle.toll_desk.specs.Questions.{AreSlicesFor}
use Rattle.toll_desk.proofs.OwnerPlans.{unread_is_unknown}
use Rattle.toll_desk.proofs.OwnTraces.{rows_read}
use Rattle.toll_desk.proofs.RecallLines.{step_found, step_unknown, step_added}
use Rattle.toll_desk.proofs.recalls.add_slice.Goals as goal

pub returns-then-is_some-clause-over : goal.returns-then-is_some-clause-over
returns-then-is_some-clause-over g c honest content H held stands lawful before are =
    step_found H before c.args.step.now c.args.slices.now.items c.index_of_owner.result are (c.index_of_owner.ensures ∙ ap (position (is_slice_of c.args.step.now.lot.owner)) c.deref.ensures.value) (sym c.is_some.ensures ∙ c.if-is_some.true)

pub returns-in-Ok-None-clause-over : goal.returns-in-Ok-None-clause-over
returns-in-Ok-None-clause-over g c honest content H held stands lawful before are =
    step_unknown H before c.args.step.now c.args.slices.now.items are (unread_is_unknown content H c.args.step.now.lot.owner stands (sym c.in-Ok-None.field-0-is ∙ c.in-Ok-None.ensures.reads honest content held))

pub returns-else-is_err-clause-over : goal.returns-else-is_err-clause-over
returns-else-is_err-clause-over g c honest content H held stands lawful before are =
    let step = c.args.step.now in
    let s = c.in-Ok-Some.slice in
    let read = rows_read content H step.lot.owner s stands (sym c.in-Ok-Some.field-0-is ∙ c.in-Ok-Some.ensures.reads honest content held) in
    subst (AreSlicesFor H (before ++ step ∷ [])) (sym (of_ok c.add_totals.result c.if-is_err.ensures.negation c.add_totals.ensures)) (step_added H before step c.args.slices.now.items s are read.0 read.1)
