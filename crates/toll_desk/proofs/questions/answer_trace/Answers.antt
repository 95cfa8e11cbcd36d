use Rattle.std.proofs.Common.{is_some, sym, ap, ◌∙◌}
use Rattle.toll_history.specs.OwnerFacts.{lot_row}
use Rattle.std.proofs.lemmas.Bool.{and_from}
use Rattle.toll_desk.proofs.OwnerPlans.{some_read, unread_is_unknown}
use Rattle.toll_desk.proofs.OwnTraces.{rows_read}
use Rattle.toll_desk.proofs.PlantShown.{lot_unknown, owner_unknown}
use Rattle.toll_desk.proofs.questions.answer_trace.Goals as goal

pub returns-then-is_none-clause-over : goal.returns-then-is_none-clause-over
returns-then-is_none-clause-over g c honest content H held stands lawful =
    let lot = c.args.lot.now in
    let there = sym c.in-Ok-Some.field-0-is ∙ c.in-Ok-Some.ensures.reads honest content held in
    let read = rows_read content H lot.owner c.in-Ok-Some.slice stands there in
    lot_unknown H lot _ (some_read content H lot.owner c.in-Ok-Some.slice stands there)
    (sym (ap is_some ((λ i. (read.0 i).lot lot.lot) ∙ ap (λ o. lot_row H o lot.lot) read.1)) ∙ sym (ap is_some c.lot.ensures) ∙ c.if-is_none.ensures)

pub returns-else-is_none-clause-over : goal.returns-else-is_none-clause-over
returns-else-is_none-clause-over g c honest content H held stands lawful =
    let lot = c.args.lot.now in
    let before = c.show_trace.ensures.reads.goes.honest honest in
    let there = sym c.in-Ok-Some.field-0-is ∙ c.in-Ok-Some.ensures.reads before content held in
    let read = rows_read content H lot.owner c.in-Ok-Some.slice stands there in
    c.show_trace.ensures.over honest content H ((c.in-Ok-Some.ensures.reading.keeps before).content content held) stands lawful
    (and_from _ _ (some_read content H lot.owner c.in-Ok-Some.slice stands there)
    (sym (ap is_some ((λ i. (read.0 i).lot lot.lot) ∙ ap (λ o. lot_row H o lot.lot) read.1)) ∙ sym (ap is_some c.lot.ensures) ∙ c.if-is_none.ensures))

pub returns-in-Ok-None-clause-over : goal.returns-in-Ok-None-clause-over
returns-in-Ok-None-clause-over g c honest content H held stands lawful =
    owner_unknown H c.args.lot.now _ (unread_is_unknown content H c.args.lot.now.owner stands (sym c.in-Ok-None.field-0-is ∙ c.in-Ok-None.ensures.reads honest content held))
