use Rattle.std.proofs.Common.{◌≡◌, ◌++◌, take, map, filter}
use Rattle.toll_trace.proofs.Common.{is_not_above, edge_between}
use Rattle.toll_trace.proofs.edges.add_edges.Given as goal

abbrev pub invariant-loop-production : goal.invariant-loop-production
invariant-loop-production l = l.edges.items ≡ l.fn.edges.items ++ map (edge_between l.consumption) (filter (is_not_above l.consumption) (take l.production-index l.productions))
