use Rattle.std.proofs.Common.{refl, ap, subst, sym}
use Rattle.toll_desk.proofs.Common.{verdict_of, Refused, Refuse, UnknownOwner, asked_about, recorded_command, concerned}
use Rattle.toll_desk.specs.Translations.{meaning_of_plant_reply}
use Rattle.toll_desk.specs.PlantStaged.{IsVerdictOrMemory}
use Rattle.toll_desk.specs.Reads.{AreBoth}
use Rattle.toll_desk.proofs.CommandPlans.{deed_so, shared_adds, decided_both, decided_unknown}
use Rattle.toll_desk.proofs.OccupiedLemmas.{planned_as}
use Rattle.toll_desk.proofs.OwnerPlans.{slice_read, some_read, unread_is_unknown}
use Rattle.toll_desk.proofs.staging.plan_on.Goals as goal

pub returns-in-Ok-clause-plan : goal.returns-in-Ok-clause-plan
returns-in-Ok-clause-plan c = λ content H both_are stands lawful.
    let q = c.args.command.now in
    let done = recorded_command q in
    let both = c.in-Some.both in
    let are = subst (AreBoth content (concerned q)) c.in-Some.is both_are in
    planned_as content H q c.in-Ok.decision c.of.result c.of.ensures.reported c.of.ensures.changes
    (decided_both content H stands lawful done (asked_about q) both.own both.house c.in-Ok.decision (deed_so _ _ shared_adds done c.requires.shared) c.requires.valid
    (some_read content H (concerned q) both.own stands are.0) (slice_read content (concerned q) both.own are.0) are.1
    c.in-Ok.ensures.decides c.in-Ok.ensures.rules c.in-Ok.ensures.house_rules c.in-Ok.ensures.own)

pub returns-clause-plan : goal.returns-clause-plan
returns-clause-plan c = λ content H both_are stands lawful.
    let q = c.args.command.now in
    let done = recorded_command q in
    planned_as content H q (Refuse UnknownOwner) c.unchanged-in-None.result (ap meaning_of_plant_reply c.unchanged-in-None.ensures.reply) c.unchanged-in-None.ensures.changes
    (decided_unknown content H stands done (asked_about q) (deed_so _ _ shared_adds done c.requires.shared) (unread_is_unknown content H (concerned q) stands (subst (AreBoth content (concerned q)) c.in-None.is both_are)))

pub returns-in-Ok-clause-judged : goal.returns-in-Ok-clause-judged
returns-in-Ok-clause-judged c = subst IsVerdictOrMemory (sym c.of.ensures.reported) (verdict_of c.in-Ok.decision, refl)

pub returns-in-Some-clause-judged : goal.returns-in-Some-clause-judged
returns-in-Some-clause-judged c = subst IsVerdictOrMemory (sym (ap meaning_of_plant_reply c.unchanged.ensures.reply)) refl

pub returns-clause-judged : goal.returns-clause-judged
returns-clause-judged c = subst IsVerdictOrMemory (sym (ap meaning_of_plant_reply c.unchanged-in-None.ensures.reply)) (Refused UnknownOwner, refl)
