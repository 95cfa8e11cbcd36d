use Rattle.std.proofs.Common.{◌++◌, ◌∙◌, map, ap, subst}
use Rattle.toll_trace.proofs.Common.{lot_cmp, IsInOrder}
use Rattle.toll_trace.proofs.Recording.{used_in_order}
use Rattle.toll_trace.proofs.graph.lots_used.Goals as goal

pub returns-clause-used : goal.returns-clause-used
returns-clause-used c =
    let consumed = map (λ used. used.1) c.args.consumptions.now in
    let produced = map (λ used. used.1) c.args.productions.now in
    let are = c.in_ok-add_used-2.ensures ∙ ap (λ lots. lots ++ produced) (c.in_ok-add_used.ensures ∙ ap (λ lots. lots ++ consumed) c.new-lots.ensures.items) in
    used_in_order c.args.consumptions.now c.args.productions.now c.put_in_order.new.items.items (subst (λ lots. IsInOrder lot_cmp lots c.put_in_order.new.items.items) are c.put_in_order.ensures)
