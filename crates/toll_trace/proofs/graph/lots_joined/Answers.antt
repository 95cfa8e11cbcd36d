use Rattle.std.proofs.Common.{subst, take}
use Rattle.toll_trace.proofs.Common.{take_all}
use Rattle.toll_trace.proofs.EdgeIndexLemmas.{HasEnds, ends_in_order, ends_more, ends_none}
use Rattle.toll_trace.proofs.Walks.{with_item}
use Rattle.toll_trace.proofs.graph.lots_joined.Goals as goal

pub loop-edge-init : goal.loop-edge-init
loop-edge-init c = rw c.new-lots.ensures.items ends_none

pub loop-edge-preserved : goal.loop-edge-preserved
loop-edge-preserved c =
    rw (with_item c.args.edges.now c.loop-edge.edge-index c.edge-item.result c.loop-edge-test.true c.edge-item.is, c.in_ok-push-2.ensures.items, c.in_ok-push.ensures.items)
    (ends_more (take c.loop-edge.edge-index c.args.edges.now) c.loop-edge.lots.items c.edge-item.result c.loop-edge.invariant)

pub returns-clause-every : goal.returns-clause-every
returns-clause-every c =
    ends_in_order c.args.edges.now c.loop-edge.lots.items c.put_in_order.new.items.items
    (subst (λ edges. HasEnds edges c.loop-edge.lots.items) (take_all c.loop-edge.edge-index c.args.edges.now c.loop-edge-test.false) c.loop-edge.invariant)
    c.put_in_order.ensures
