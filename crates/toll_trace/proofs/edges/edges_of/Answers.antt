use Rattle.std.proofs.Common.{◌≤◌, ap, ◌∙◌, subst}
use Rattle.toll_trace.proofs.Common.{flat_map, edge_cmp, IsInOrder, AreLeft, edges_from}
use Rattle.toll_trace.proofs.Drawn.{edges_are}
use Rattle.toll_trace.proofs.edges.edges_of.Goals as goal

pub returns : goal.returns
returns c =
    edges_are c.args.slice.now c.leave_lowest.new.uses.items c.leave_highest.new.uses.items c.new.result c.put_in_order.new.items.items c.in_ok-consumptions.ensures.key_order
    (subst (λ found. AreLeft (λ lowest segment. lowest ≤ segment) found c.leave_lowest.new.uses.items) c.in_ok-consumptions.ensures.found c.leave_lowest.ensures)
    (subst (λ found. AreLeft (λ highest segment. segment ≤ highest) found c.leave_highest.new.uses.items) c.in_ok-productions.ensures.found c.leave_highest.ensures)
    c.new.ensures
    (subst (λ edges. IsInOrder edge_cmp edges c.put_in_order.new.items.items) (c.in_ok-edges.ensures ∙ ap (flat_map (edges_from c.new.result)) c.deref.ensures.value) c.put_in_order.ensures)
