use Rattle.toll_desk.proofs.CommandPlans.{opened_own}
use Rattle.toll_desk.proofs.deciding.open_on.Goals as goal

pub returns-in-Ok-open_batch-clause-over : goal.returns-in-Ok-open_batch-clause-over
returns-in-Ok-open_batch-clause-over g c honest content H held stands lawful =
    opened_own H c.args.slice.now c.args.order c.args.unit _ _ c.in-Ok-open_batch.decision lawful (c.in-Ok.ensures.over honest content H held stands lawful)
    c.in-Ok-open_batch.ensures.decides c.in-Ok-open_batch.ensures.rules c.in-Ok-open_batch.ensures.own
