use Rattle.std.proofs.Common.{◌≡◌, Some, None, option_map, find, sym, ap, ◌∙◌, subst, rules, tests}
use Rattle.toll_keep.proofs.Common.{YieldsList-from_slice, find_from_yields_List, batch_cmp_total, is_on, IsHolderIn}
use Rattle.toll_base.specs.Keys.{batch_cmp}
use Rattle.toll_keep.proofs.Finding.{none_found, one_found}
use Rattle.toll_keep.proofs.holder.holder_in.Goals as goal

pub returns-in_err-batch : goal.returns-in_err-batch
returns-in_err-batch c =
    let found : option_map (λ row. row.now) c.find.result ≡ find (is_on c.args.unit.now) c.args.slice.now.batches =
    find_from_yields_List (is_on c.args.unit.now) _ _ c.find.result c.find.ensures.ran (YieldsList-from_slice _ (c.iter.ensures.rest ∙ c.batches.ensures.rows)) (λ x b q k. search (rules, tests)) in
    let none : c.find.result ≡ None = c.in_err-batch.was in
    subst (IsHolderIn c.args.slice.now c.args.unit.now) (sym c.from_residual.ensures)
    (λ k. none_found batch_cmp (λ row. (row.order, row.number)) (is_on c.args.unit.now) c.args.slice.now.batches k (sym found ∙ ap (option_map (λ row. row.now)) none))

pub returns : goal.returns
returns c =
    let found : option_map (λ row. row.now) c.find.result ≡ find (is_on c.args.unit.now) c.args.slice.now.batches =
    find_from_yields_List (is_on c.args.unit.now) _ _ c.find.result c.find.ensures.ran (YieldsList-from_slice _ (c.iter.ensures.rest ∙ c.batches.ensures.rows)) (λ x b q k. search (rules, tests)) in
    let one : c.find.result ≡ Some c.in_ok-batch.batch = c.in_ok-batch.was in
    (c.owner.ensures.owner, one_found batch_cmp (λ row. (row.order, row.number)) (is_on c.args.unit.now) batch_cmp_total c.args.slice.now.batches c.in_ok-batch.batch.now c.batches.ensures.order (sym found ∙ ap (option_map (λ row. row.now)) one))
