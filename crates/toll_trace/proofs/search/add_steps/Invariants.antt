use Rattle.std.proofs.Common.{◌≡◌, ◌++◌, map, take}
use Rattle.toll_trace.proofs.Common.{step_at}
use Rattle.toll_trace.proofs.search.add_steps.Given as goal

abbrev pub invariant-loop-lot : goal.invariant-loop-lot
invariant-loop-lot l = l.found.items ≡ l.fn.found.items ++ map (step_at l.steps) (take l.lot-index l.lots)
