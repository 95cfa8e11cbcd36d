use Rattle.std.proofs.Common.{◌<◌, ◌∙◌, length, ap, sym, subst, arith}
use Rattle.toll_trace.proofs.Common.{get_or_default, with_items_is, is_found, AreFaced, IsLedOn, all_steps}
use Rattle.toll_trace.proofs.Parts.{IsGrown, alone_faces, grown_found, parts_all, parts_more, parts_none}
use Rattle.toll_trace.proofs.search.advance.Goals as goal

pub loop-part-init : goal.loop-part-init
loop-part-init c = rw (c.deref_mut-part-items.ensures.value, c.new-lots.ensures.items) (parts_none (is_found c.args.found.now.items) (is_found c.add_steps.new.found.items) c.args.front.now c.args.parts.now.items c.requires.walked)

pub loop-part-preserved : goal.loop-part-preserved
loop-part-preserved c =
    let parts = c.loop-part.part-items in
    let new = c.lead_on.new.self in
    let lt : c.loop-part.part-index < length parts = (let l = c.loop-part.auto.part-items in let t = c.loop-part-test.true in omega arith) in
    let grow : IsGrown (is_found c.args.found.now.items) (is_found c.add_steps.new.found.items) c.args.front.now = subst (λ found. IsGrown (is_found c.args.found.now.items) (is_found found) c.args.front.now) (sym c.in_ok-add_steps.ensures) (grown_found c.args.found.now.items c.args.steps c.args.front.now) in
    parts_more (is_found c.args.found.now.items) (is_found c.add_steps.new.found.items) c.args.front.now grow c.args.parts.now.items parts c.loop-part.part-index c.loop-part.lots.items c.lead_on.new.lots.items new c.loop-part.invariant lt
    (subst (λ p. IsLedOn p new c.loop-part.lots.items c.lead_on.new.lots.items) (get_or_default parts c.loop-part.part-index c.part-item.result new lt) c.in_ok-lead_on.ensures)

pub face_all-requires-clause-alone : goal.face_all-requires-clause-alone
face_all-requires-clause-alone c =
    let same = with_items_is c.args.parts.now c.loop-part.part-items (let l = c.loop-part.auto.part-items in let v = ap length c.deref_mut-part-items.ensures.value in let k = c.args.parts.now.ok in omega arith) in
    rw (same, c.deref.ensures.value)
    (alone_faces (is_found c.args.found.now.items) (is_found c.add_steps.new.found.items) c.args.front.now c.args.parts.now.items c.loop-part.part-items c.loop-part.part-index c.loop-part.lots.items c.put_in_order.new.items.items
    (let l = c.loop-part.auto.part-items in let t = c.loop-part-test.false in omega arith) c.loop-part.invariant c.put_in_order.ensures)

pub returns-clause-led : goal.returns-clause-led
returns-clause-led c =
    let same = with_items_is c.args.parts.now c.loop-part.part-items (let l = c.loop-part.auto.part-items in let v = ap length c.deref_mut-part-items.ensures.value in let k = c.args.parts.now.ok in omega arith) in
    let faced : AreFaced c.put_in_order.new.items.items c.loop-part.part-items c.face_all.new.parts.items = rw (← c.deref.ensures.value, ← same) c.in_ok-face_all.ensures.faced in
    parts_all (is_found c.args.found.now.items) (is_found c.add_steps.new.found.items) c.args.front.now c.args.parts.now.items c.loop-part.part-items c.loop-part.part-index c.loop-part.lots.items c.put_in_order.new.items.items
    (let l = c.loop-part.auto.part-items in let t = c.loop-part-test.false in omega arith) c.loop-part.invariant c.put_in_order.ensures c.face_all.new.parts.items (c.in_ok-face_all.ensures.steps ∙ ap all_steps same) faced
