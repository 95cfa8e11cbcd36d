use Rattle.std.proofs.Common.{refl}
use Rattle.toll_desk.proofs.CommandPlans.{free_alike}
use Rattle.toll_desk.proofs.deciding.holding.Goals as goal

pub returns-in-Ok-clause-over : goal.returns-in-Ok-clause-over
returns-in-Ok-clause-over g c honest content H held stands lawful =
    (refl, free_alike content H stands lawful c.args.unit.now c.in-Ok.held (c.in-Ok.ensures.reads honest content held) c.is_none.result c.is_none.ensures)
