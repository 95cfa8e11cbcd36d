use Rattle.std.proofs.Common.{◌≡◌, map, take, filter}
use Rattle.toll_keep.proofs.Common.{list_any}
use Rattle.toll_base.specs.Bytes.{same_bytes}
use Rattle.toll_keep.proofs.tracing.chosen.Given as goal

abbrev pub invariant-loop-known : goal.invariant-loop-known
invariant-loop-known l = map (λ graph. graph.now) l.chosen.items ≡ map (λ known. known.graph) (filter (λ known. list_any (same_bytes known.owner) l.owners) (take l.known-index l.graphs))
