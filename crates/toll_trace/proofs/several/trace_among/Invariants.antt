use Rattle.std.proofs.Common.{map, take}
use Rattle.toll_trace.proofs.Among.{ArePartsOf}
use Rattle.toll_trace.proofs.several.trace_among.Given as goal

abbrev pub invariant-loop-graph : goal.invariant-loop-graph
invariant-loop-graph l = ArePartsOf l.way l.from (map (λ graph. graph.now) (take l.graph-index l.graphs)) l.parts.items
