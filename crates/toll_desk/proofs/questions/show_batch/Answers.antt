use Rattle.std.proofs.Common.{is_some, sym, ap, subst, ◌∙◌}
use Rattle.toll_desk.proofs.Common.{Bytes, acts, order_of, batch_of, IsViewOver, IsViewOfHistories, IsPlantAnswer, Shows}
use Rattle.toll_answers.specs.declared.plant_cmd.PlantCmd.TheVariants.{Batch}
use Rattle.toll_desk.proofs.PlantShown.{batch_shown, order_unknown, batch_unknown}
use Rattle.toll_desk.proofs.questions.show_batch.Goals as goal

pub returns-in_ok-batch_text-in-Some-clause-text : goal.returns-in_ok-batch_text-in-Some-clause-text
unfolding IsViewOfHistories
returns-in_ok-batch_text-in-Some-clause-text c H lawful known rows =
    let s = c.args.slice.now in
    let order = c.args.order.now in
    let view = subst (λ v. IsViewOver H s.owner order c.args.number (order_of (acts s.owner H) order) (batch_of (acts s.owner H) (order, c.args.number)) v) c.in-Some.is (c.in_ok-view.ensures.over_histories H lawful rows) in
    subst (λ (text : Bytes). IsPlantAnswer H (Batch s.owner order c.args.number) (Shows text)) (sym c.in_ok-batch_text-in-Some.ensures)
    (batch_shown H s.owner order c.args.number known c.in-Some.view view)

pub returns-then-is_some-clause-refused : goal.returns-then-is_some-clause-refused
unfolding IsViewOfHistories
returns-then-is_some-clause-refused c H lawful known rows =
    let s = c.args.slice.now in
    let order = c.args.order.now in
    let view = subst (λ v. IsViewOver H s.owner order c.args.number (order_of (acts s.owner H) order) (batch_of (acts s.owner H) (order, c.args.number)) v) c.in-None.is (c.in_ok-view.ensures.over_histories H lawful rows) in
    batch_unknown H s.owner order c.args.number known (sym (ap is_some (λ i. (rows i).order order)) ∙ sym (ap is_some c.order.ensures) ∙ sym c.is_some.ensures ∙ c.if-is_some.true) view

pub returns-else-is_some-clause-refused : goal.returns-else-is_some-clause-refused
returns-else-is_some-clause-refused c H lawful known rows =
    order_unknown H c.args.slice.now.owner c.args.order.now c.args.number known (sym (ap is_some (λ i. (rows i).order c.args.order.now)) ∙ sym (ap is_some c.order.ensures) ∙ sym c.is_some.ensures ∙ c.if-is_some.false)
