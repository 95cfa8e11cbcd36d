use Rattle.std.proofs.Common.{◌≡◌, ◌++◌, map, take}
use Rattle.toll_trace.proofs.graph.add_used.Given as goal

abbrev pub invariant-loop-lot : goal.invariant-loop-lot
invariant-loop-lot l = l.lots.items ≡ l.fn.lots.items ++ map (λ used. used.1) (take l.lot-index l.uses)
