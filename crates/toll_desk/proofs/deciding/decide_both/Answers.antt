use Rattle.std.proofs.Common.{Some, None, subst}
use Rattle.toll_desk.proofs.Common.{asked_about, recorded_command, concerned}
use Rattle.toll_desk.specs.Reads.{AreBoth}
use Rattle.toll_desk.proofs.CommandPlans.{deed_so, shared_adds, decided_both, decided_unknown}
use Rattle.toll_desk.proofs.OwnerPlans.{slice_read, some_read, unread_is_unknown}
use Rattle.toll_desk.proofs.deciding.decide_both.Goals as goal

pub returns-in-Ok-clause-over : goal.returns-in-Ok-clause-over
returns-in-Ok-clause-over g c honest content H held stands lawful =
    let q = c.args.command.now in
    let done = recorded_command q in
    let both = c.in-Ok-Some.both in
    let read = subst (AreBoth content c.owner.result) c.in-Ok-Some.field-0-is (c.in-Ok-Some.ensures.both honest content held) in
    let are = subst (λ o. AreBoth content o (Some both)) c.owner.ensures read in
    decided_both content H stands lawful done (asked_about q) both.own both.house c.in-Ok.decision (deed_so _ _ shared_adds done c.requires.shared) c.requires.valid
    (some_read content H (concerned q) both.own stands are.0) (slice_read content (concerned q) both.own are.0) are.1
    c.in-Ok.ensures.decides c.in-Ok.ensures.rules c.in-Ok.ensures.house_rules c.in-Ok.ensures.own

pub returns-in-Ok-None-clause-over : goal.returns-in-Ok-None-clause-over
returns-in-Ok-None-clause-over g c honest content H held stands lawful =
    let q = c.args.command.now in
    let done = recorded_command q in
    let read = subst (AreBoth content c.owner.result) c.in-Ok-None.field-0-is (c.in-Ok-None.ensures.both honest content held) in
    decided_unknown content H stands done (asked_about q) (deed_so _ _ shared_adds done c.requires.shared)
    (unread_is_unknown content H (concerned q) stands (subst (λ o. AreBoth content o None) c.owner.ensures read))
