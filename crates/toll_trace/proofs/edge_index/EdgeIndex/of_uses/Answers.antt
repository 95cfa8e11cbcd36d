use Rattle.toll_trace.proofs.Ahead.{uses_within, uses_joined, uses_exits}
use Rattle.toll_trace.proofs.edge_index.EdgeIndex.of_uses.Goals as goal

pub invariant_of-result : goal.invariant_of-result
invariant_of-result c = record { within = uses_within c.args.way c.args.entering.now c.args.leaving.now c.put_in_order_along.new.uses c.in_ok-sources.sources.items c.new.result c.in_ok-targets.targets.items c.put_in_order_along.ensures.moved c.in_ok-targets.ensures c.in_ok-sources.ensures c.new.ensures }

pub returns-clause-joined : goal.returns-clause-joined
returns-clause-joined c = uses_joined c.args.way c.args.entering.now c.args.leaving.now c.put_in_order_along.new.uses c.in_ok-sources.sources.items c.new.result c.in_ok-targets.targets.items c.put_in_order_along.ensures.moved c.in_ok-targets.ensures c.in_ok-sources.ensures c.new.ensures

pub returns-clause-targets : goal.returns-clause-targets
returns-clause-targets c = uses_exits c.args.leaving.now c.put_in_order_along.new.uses c.in_ok-targets.targets.items c.put_in_order_along.ensures.moved c.in_ok-targets.ensures
