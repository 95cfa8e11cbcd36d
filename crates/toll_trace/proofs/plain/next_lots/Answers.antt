use Rattle.std.proofs.Common.{◌≡◌, Ok, subst, rules, tests}
use Rattle.std.specs.declared.alloc.AllocError.{AllocError}
use Rattle.toll_trace.proofs.Common.{filter_map, lot_cmp, IsInOrder, next_lot}
use Rattle.std.proofs.lemmas.Iterator.{YieldsList-from_slice, items_from_collect}
use Rattle.std.proofs.lemmas.Iterator.Consumers.{YieldsList-from_filter_map}
use Rattle.toll_trace.proofs.Rounds.{level_by_edges}
use Rattle.toll_trace.proofs.plain.next_lots.Goals as goal

pub returns : goal.returns
returns c =
    let next = next_lot c.args.way c.args.found.now in
    let led_to : c.in_ok-lots.lots.items ≡ filter_map next c.args.edges.now =
    items_from_collect {E = AllocError} {s = c.filter_map.result} (Ok c.in_ok-lots.lots) c.in_ok-lots.ensures.ran
    (YieldsList-from_filter_map _ next (YieldsList-from_slice c.args.edges.now cc) c.filter_map.ensures.closure (λ x r q k. search (rules, tests))) in
    level_by_edges c.args.edges.now c.args.way c.args.found.now c.put_in_order.new.items.items
    (subst (λ lots. IsInOrder lot_cmp lots c.put_in_order.new.items.items) led_to c.put_in_order.ensures)
