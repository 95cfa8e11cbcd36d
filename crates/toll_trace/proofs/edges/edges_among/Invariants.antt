use Rattle.std.proofs.Common.{◌≡◌, take}
use Rattle.toll_trace.proofs.Common.{edges_from}
use Rattle.std.specs.List.{flat_map}
use Rattle.toll_trace.proofs.edges.edges_among.Given as goal

abbrev pub invariant-loop-batch : goal.invariant-loop-batch
invariant-loop-batch l = l.edges.items ≡ flat_map (edges_from l.productions) (take l.batch-index l.consumptions)
