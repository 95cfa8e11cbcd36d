use Rattle.toll_trace.proofs.EdgeIndexLemmas.{graph_of}
use Rattle.toll_trace.proofs.graph.Graph.build.Goals as goal

pub of_edges-requires-clause-listed : goal.of_edges-requires-clause-listed
of_edges-requires-clause-listed c = rw c.deref.ensures.value c.in_ok-lots.ensures.every

pub of_edges-requires-2-clause-listed : goal.of_edges-requires-2-clause-listed
of_edges-requires-2-clause-listed c = rw c.deref-2.ensures.value c.in_ok-lots.ensures.every

pub invariant_of-result : goal.invariant_of-result
invariant_of-result c = record {
  sorted = c.in_ok-lots.ensures.sorted;
  forward_within = rw (← c.deref.ensures.value) c.in_ok-forward.ensures.within;
  back_within = rw (← c.deref-2.ensures.value) c.in_ok-back.ensures.within;
}

pub returns : goal.returns
returns c = graph_of c.args.edges.now _ (rw (← c.deref-2.ensures.value) c.in_ok-back.ensures.joined) (rw (← c.deref.ensures.value) c.in_ok-forward.ensures.joined)
