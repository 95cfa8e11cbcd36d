use Rattle.std.proofs.Common.{take}
use Rattle.toll_trace.proofs.EdgeIndexLemmas.{HasEnds}
use Rattle.toll_trace.proofs.graph.lots_joined.Given as goal

abbrev pub invariant-loop-edge : goal.invariant-loop-edge
invariant-loop-edge l = HasEnds (take l.edge-index l.edges) l.lots.items
