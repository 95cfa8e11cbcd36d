use Rattle.toll_plant.proofs.LimitLemmas.{with_limits}
use Rattle.toll_plant.proofs.additions.test_within.Goals as goal

pub returns-in-Ok : goal.returns-in-Ok
returns-in-Ok c = with_limits c.args.owner c.args.material c.args.test c.in-Ok.limits c.args.low c.args.high c.in-Ok.ensures.limits
