use Rattle.std.proofs.Common.{IfErr, IfOk, sym, ap, ◌∙◌}
use Rattle.toll_desk.proofs.Common.{Refused, IsPlantAnswer, Shows, Judged, concerned, slice_of}
use Rattle.toll_desk.proofs.OwnerPlans.{unread_is_unknown}
use Rattle.toll_desk.proofs.PlantShown.{read_for_question, if_ok_of, if_err_of, rows_of_unknown}
use Rattle.toll_desk.proofs.questions.answer_from_rows.Goals as goal

pub returns-in-Ok-Ok-clause-over : goal.returns-in-Ok-Ok-clause-over
returns-in-Ok-Ok-clause-over g c honest content H held stands lawful =
    let there = sym c.in-Ok-Some.field-0-is ∙ c.in-Ok-Some.ensures.reads honest content held ∙ ap (slice_of content) c.owner.ensures in
    if_ok_of _ _ _ c.in-Ok-Ok.field-0-is
    (read_for_question content H c.args.command.now c.in-Ok-Some.slice lawful stands there
    (λ H q. IfOk c.in-Ok-Ok.field-0 (λ text. IsPlantAnswer H q (Shows text.items))) c.in-Ok-Ok.ensures.text)

pub returns-in-Ok-Err-clause-over : goal.returns-in-Ok-Err-clause-over
returns-in-Ok-Err-clause-over g c honest content H held stands lawful =
    let there = sym c.in-Ok-Some.field-0-is ∙ c.in-Ok-Some.ensures.reads honest content held ∙ ap (slice_of content) c.owner.ensures in
    if_err_of _ _ _ c.in-Ok-Err.field-0-is
    (read_for_question content H c.args.command.now c.in-Ok-Some.slice lawful stands there
    (λ H q. IfErr c.in-Ok-Err.field-0 (λ why. IsPlantAnswer H q (Judged (Refused why)))) c.in-Ok-Err.ensures.refused)

pub returns-in-Ok-None-clause-over : goal.returns-in-Ok-None-clause-over
returns-in-Ok-None-clause-over g c honest content H held stands lawful =
    let q = c.args.command.now in
    let none = sym c.in-Ok-None.field-0-is ∙ c.in-Ok-None.ensures.reads honest content held ∙ ap (slice_of content) c.owner.ensures in
    rows_of_unknown H q c.requires (unread_is_unknown content H (concerned q) stands none)
