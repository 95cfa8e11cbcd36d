use Rattle.std.proofs.Common.{◌<◌, length, ap, subst, arith}
use Rattle.toll_trace.proofs.Common.{get_or_default, with_items_is, IsFaced}
use Rattle.toll_trace.proofs.Parts.{faced_all, faced_alone, faced_more, faced_none}
use Rattle.toll_trace.proofs.search.face_all.Goals as goal

pub loop-part-init : goal.loop-part-init
loop-part-init c = rw c.deref_mut-part-items.ensures.value (faced_none c.args.lots.now c.args.parts.now.items)

pub loop-part-preserved : goal.loop-part-preserved
loop-part-preserved c =
    let parts = c.loop-part.part-items in
    let lt : c.loop-part.part-index < length parts = (let l = c.loop-part.auto.part-items in let t = c.loop-part-test.true in omega arith) in
    faced_more c.args.lots.now c.args.parts.now.items parts c.loop-part.part-index c.face.new.self lt c.loop-part.invariant
    (subst (λ p. IsFaced c.args.lots.now p c.face.new.self) (get_or_default parts c.loop-part.part-index c.part-item.result c.face.new.self lt) c.in_ok-face.ensures)

pub returns-then-len-eq1-clause-faced : goal.returns-then-len-eq1-clause-faced
returns-then-len-eq1-clause-faced c = faced_alone c.args.lots.now c.args.parts.now.items (c.requires.alone (let k = c.args.parts.now.ok in let l = c.len.ensures in let t = c.if-len-eq1.true in omega arith))

pub returns-clause-faced : goal.returns-clause-faced
returns-clause-faced c =
    let same = with_items_is c.args.parts.now c.loop-part.part-items (let l = c.loop-part.auto.part-items in let v = ap length c.deref_mut-part-items.ensures.value in let k = c.args.parts.now.ok in omega arith) in
    rw same
    (faced_all c.args.lots.now c.args.parts.now.items c.loop-part.part-items c.loop-part.part-index (let l = c.loop-part.auto.part-items in let t = c.loop-part-test.false in omega arith) c.loop-part.invariant)
