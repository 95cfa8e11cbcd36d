use Rattle.std.proofs.Common.{◌≡◌, ◌<◌, ◌^◌, true, is_some, length, get_or, ap, subst, sym, ◌∙◌, arith}
use Rattle.std.proofs.lemmas.Grind.{common_steps}
use Rattle.toll_answers.proofs.Common.{bytes_cmp, material_at, IsInKeyOrder, LotRow, line_in, StockLine}
use Rattle.toll_stock.proofs.OnHand.{on_hand_small}
use Rattle.toll_answers.proofs.StockLaw.{material_there}
use Rattle.toll_answers.proofs.StockWalk.{hold_here, hold_behind}
use Rattle.toll_answers.proofs.views.stock.lines_in_slice.Goals as goal

pub take_lot-amount-requires-clause-fits : goal.take_lot-amount-requires-clause-fits
take_lot-amount-requires-clause-fits c =
    let s = c.args.slice.now in let row = c.row-item.result in
    subst (λ n. n < 2 ^ 64) (sym (hold_here s _ _ row c.row-item.is c.loop-row-test.true _ c.loop-row.invariant.left))
    (on_hand_small s c.owner-owner.ensures.kept c.sublots-sublots.ensures.order row.lot)

pub measure_of-requires : goal.measure_of-requires
measure_of-requires c =
    let s = c.args.slice.now in let row = c.row-item.result in let i = c.loop-row.row-index in
    let lots = c.lots-rows.ensures in
    let here : row ≡ get_or s.lots i row = c.row-item.is ∙ ap (λ rows. get_or rows i row) lots.rows in
    subst (λ (r : LotRow). is_some (material_at s r.material) ≡ true) (sym here)
    (material_there s c.owner-owner.ensures.kept lots.order i row (subst (λ rows. i < length rows) lots.rows c.loop-row-test.true))

pub loop-row-preserved : goal.loop-row-preserved
loop-row-preserved c =
    let s = c.args.slice.now in let row = c.row-item.result in let i = c.loop-row.row-index in
    let lots = c.lots-rows.ensures in
    let amount = c.take_lot-amount.ensures.amount ∙ hold_here s _ _ row c.row-item.is c.loop-row-test.true _ c.loop-row.invariant.left in
    let line : ◌≡◌ {A = StockLine} (record { row = row; measure = c.measure_of.result; amount = c.take_lot-amount.result.0 }) (line_in s row) = λ j. record { row = row; measure = c.measure_of.ensures j; amount = amount j } in
    record {
      lines = grind (arith, common_steps, line);
      order = c.take_lot-amount.ensures.order;
      left = hold_behind s _ i row c.row-item.is c.loop-row-test.true _ c.loop-row.invariant.left (subst (IsInKeyOrder bytes_cmp (λ (r : LotRow). r.lot)) (sym lots.rows) lots.order) _ c.take_lot-amount.ensures.later;
    }
