use Rattle.std.proofs.Common.{◌≡◌, map, take}
use Rattle.toll_trace.proofs.edge_index.numbers_used.Given as goal

abbrev pub invariant-loop-number : goal.invariant-loop-number
invariant-loop-number l = l.numbers.items ≡ map (λ used. used.1) (take l.number-index l.uses)
