use Rattle.std.proofs.Common.{◌≡◌, ◌<◌, ◌^◌, get_or, ap, sym, subst, ◌∙◌, arith}
use Rattle.toll_stock.proofs.Common.{at_drop_all, same_bytes, total, SublotRow, total-kept}
use Rattle.toll_stock.proofs.Sums.{total-drop}
use Rattle.toll_stock.proofs.OnHand.{on_hand_small}
use Rattle.toll_stock.proofs.stock.sum_of_sublots.Goals as goal

pub overflow_add-sum : goal.overflow_add-sum
overflow_add-sum c =
    let s = c.args.slice.now in
    let lot = c.args.lot.now in
    let row = c.row-item.result in
    let rows = c.sublots_of-rows.result.now in
    let f = λ (r : SublotRow). r.amount in
    let is = ap (total f) c.sublots_of-rows.ensures.rows ∙ total-kept (λ r. same_bytes r.lot lot) f s.sublots in
    let small : total f rows < 2 ^ 64 = subst (λ n. n < 2 ^ 64) (sym is) (on_hand_small s c.owner-owner.ensures.kept c.sublots_of-rows.ensures.order lot) in
    let left = total-drop f rows c.loop-row.row-index row c.loop-row-test.true in
    let here : f (get_or rows c.loop-row.row-index row) ≡ row.amount = ap f (sym c.row-item.is) in
    let so_far = c.loop-row.invariant in
    omega (arith, small, left, here, so_far)

pub returns-clause-sum : goal.returns-clause-sum
returns-clause-sum c =
    let s = c.args.slice.now in
    let lot = c.args.lot.now in
    let f = λ (r : SublotRow). r.amount in
    let is = ap (total f) c.sublots_of-rows.ensures.rows ∙ total-kept (λ r. same_bytes r.lot lot) f s.sublots in
    let none = at_drop_all (total f) c.sublots_of-rows.result.now c.loop-row.row-index c.loop-row-test.false in
    let all = c.loop-row.invariant in
    let ended : c.loop-row.sum ≡ total f c.sublots_of-rows.result.now = omega (arith, none, all) in
    ended ∙ is
