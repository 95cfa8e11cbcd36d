use Rattle.std.proofs.Common.{◌≡◌, length, subst, arith}
use Rattle.toll_trace.proofs.Common.{LotId, IsNumber}
use Rattle.toll_trace.proofs.EdgeIndexLemmas.{edges_none, edges_more, edges_within, edges_joined, has_both}
use Rattle.toll_trace.proofs.Walks.{item_of}
use Rattle.toll_trace.proofs.edge_index.EdgeIndex.of_edges.Goals as goal

pub loop-edge-init : goal.loop-edge-init
loop-edge-init c = rw (c.new-sources.ensures.items, c.new-targets.ensures.items) (edges_none c.args.lots.now c.args.edges.now c.args.way)

pub number_in-requires-clause-listed : goal.number_in-requires-clause-listed
number_in-requires-clause-listed c = rw c.ends-from.ensures (has_both c.args.lots.now c.args.edges.now c.args.way c.edge-item.result c.requires.listed (item_of _ _ _ c.loop-edge-test.true c.edge-item.is)).0

pub number_in-requires-in-loop-edge-clause-listed : goal.number_in-requires-in-loop-edge-clause-listed
number_in-requires-in-loop-edge-clause-listed c = rw c.ends-from.ensures (has_both c.args.lots.now c.args.edges.now c.args.way c.edge-item.result c.requires.listed (item_of _ _ _ c.loop-edge-test.true c.edge-item.is)).1

pub loop-edge-preserved : goal.loop-edge-preserved
loop-edge-preserved c =
    let e = c.edge-item.result in
    let from = subst (λ (p : LotId × LotId). IsNumber c.args.lots.now c.number_in.result p.0) c.ends-from.ensures c.number_in.ensures in
    let to = subst (λ (p : LotId × LotId). IsNumber c.args.lots.now c.number_in-in-loop-edge.result p.1) c.ends-from.ensures c.number_in-in-loop-edge.ensures in
    let start : c.len-start.result ≡ length c.loop-edge.targets.items = (let l = c.len-start.ensures in let k = c.loop-edge.targets.ok in omega arith) in
    rw (c.in_ok-push.ensures.items, c.in_ok-push-2.ensures.items, start)
    (edges_more c.args.lots.now c.args.edges.now c.args.way c.loop-edge.edge-index e c.loop-edge.sources.items c.loop-edge.targets.items c.loop-edge-test.true c.edge-item.is c.loop-edge.invariant c.number_in.result c.number_in-in-loop-edge.result from to)

pub invariant_of-result : goal.invariant_of-result
invariant_of-result c = record { within = edges_within c.args.lots.now c.requires.sorted c.args.edges.now c.args.way c.loop-edge.edge-index c.loop-edge.sources.items c.new.result c.loop-edge.targets.items c.loop-edge-test.false c.loop-edge.invariant c.new.ensures }

pub returns-clause-joined : goal.returns-clause-joined
returns-clause-joined c = edges_joined c.args.lots.now c.requires.sorted c.args.edges.now c.args.way c.loop-edge.edge-index c.loop-edge.sources.items c.new.result c.loop-edge.targets.items c.loop-edge-test.false c.loop-edge.invariant c.new.ensures
