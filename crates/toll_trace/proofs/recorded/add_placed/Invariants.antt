use Rattle.std.proofs.Common.{◌≡◌, ◌++◌, map, take}
use Rattle.toll_trace.proofs.Common.{placed_use}
use Rattle.toll_trace.proofs.recorded.add_placed.Given as goal

abbrev pub invariant-loop-batch : goal.invariant-loop-batch
invariant-loop-batch l = l.all.items ≡ l.fn.all.items ++ map (placed_use l.number) (take l.batch-index l.uses)
