use Rattle.std.proofs.Common.{Some, refl, sym, ◌∙◌}
use Rattle.toll_desk.proofs.Common.{IfOk-weaker, OpenBatch, by}
use Rattle.toll_desk.proofs.CommandPlans.{decided_own, decided_unknown}
use Rattle.toll_desk.proofs.OwnerPlans.{slice_read, some_read, unread_is_unknown}
use Rattle.toll_desk.proofs.deciding.decide_opening.Goals as goal

pub returns-in-Ok-Some-clause-over : goal.returns-in-Ok-Some-clause-over
returns-in-Ok-Some-clause-over g c honest content H held stands lawful =
    let before = c.open_on.ensures.reads.goes.honest honest in
    let o = c.args.owner.now in
    let done = Some (by o (OpenBatch c.args.order c.args.unit)) in
    let s = c.in-Ok-Some.slice in
    let there = sym c.in-Ok-Some.field-0-is ∙ c.in-Ok-Some.ensures.reads before content held in
    IfOk-weaker c.open_on.result _ _
    (λ d own. decided_own content H stands lawful done o s d refl (some_read content H o s stands there) (slice_read content o s there) own)
    (c.open_on.ensures.over honest content H ((c.in-Ok-Some.ensures.reading.keeps before).content content held) stands lawful)

pub returns-in-Ok-None-clause-over : goal.returns-in-Ok-None-clause-over
returns-in-Ok-None-clause-over g c honest content H held stands lawful =
    decided_unknown content H stands (Some (by c.args.owner.now (OpenBatch c.args.order c.args.unit))) c.args.owner.now refl
    (unread_is_unknown content H c.args.owner.now stands (sym c.in-Ok-None.field-0-is ∙ c.in-Ok-None.ensures.reads honest content held))
