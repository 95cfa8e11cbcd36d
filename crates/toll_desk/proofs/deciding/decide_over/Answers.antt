use Rattle.std.proofs.Common.{sym, ap, ◌∙◌}
use Rattle.toll_keep.specs.Content.{slice_of}
use Rattle.toll_desk.proofs.Common.{asked_about, recorded_command, concerned}
use Rattle.toll_desk.proofs.CommandPlans.{deed_so, own_adds, deed_decision, decided_own, decided_unknown}
use Rattle.toll_desk.proofs.OwnerPlans.{slice_read, some_read, unread_is_unknown}
use Rattle.toll_desk.proofs.deciding.decide_over.Goals as goal

pub returns-in-Ok-clause-over : goal.returns-in-Ok-clause-over
returns-in-Ok-clause-over g c honest content H held stands lawful =
    let q = c.args.command.now in
    let done = recorded_command q in
    let o = concerned q in
    let s = c.in-Ok-Some.slice in
    let there = sym c.in-Ok-Some.field-0-is ∙ c.in-Ok-Some.ensures.reads honest content held ∙ ap (slice_of content) c.owner.ensures in
    decided_own content H stands lawful done (asked_about q) s c.in-Ok.decision (deed_so _ _ own_adds done c.requires.own)
    (some_read content H o s stands there) (slice_read content o s there)
    (deed_decision H s done c.in-Ok.decision lawful c.requires.valid c.in-Ok.ensures.decides c.in-Ok.ensures.rules c.in-Ok.ensures.own)

pub returns-in-Ok-None-clause-over : goal.returns-in-Ok-None-clause-over
returns-in-Ok-None-clause-over g c honest content H held stands lawful =
    let q = c.args.command.now in
    let done = recorded_command q in
    let none = sym c.in-Ok-None.field-0-is ∙ c.in-Ok-None.ensures.reads honest content held ∙ ap (slice_of content) c.owner.ensures in
    decided_unknown content H stands done (asked_about q) (deed_so _ _ own_adds done c.requires.own) (unread_is_unknown content H (concerned q) stands none)
