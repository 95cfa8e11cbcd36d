use Rattle.toll_trace.proofs.EdgeIndexLemmas.{AreOfEdges}
use Rattle.toll_trace.proofs.edge_index.EdgeIndex.of_edges.Given as goal

abbrev pub invariant-loop-edge : goal.invariant-loop-edge
invariant-loop-edge l = AreOfEdges l.lots l.edges l.way l.edge-index l.sources.items l.targets.items
