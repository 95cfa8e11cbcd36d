use Rattle.std.proofs.Common.{◌≡◌, Some, None, position, ap, sym, ◌∙◌}
use Rattle.toll_keep.proofs.Common.{is_slice_of}
use Rattle.toll_keep.specs.Common.{with_row}
use Rattle.toll_keep.proofs.Outcomes.{on_ok_weaker}
use Rattle.toll_keep.proofs.Slicing.{row_there, row_added}
use Rattle.toll_keep.proofs.slices.put_for.Goals as goal

pub returns-in-Some-clause-put : goal.returns-in-Some-clause-put
returns-in-Some-clause-put c =
    let slices = c.args.slices.now.items in
    let there : position (is_slice_of c.args.owner.now) slices ≡ Some c.in-Some.at = ap (position (is_slice_of c.args.owner.now)) (sym c.deref.ensures.value) ∙ sym c.in-Some.ensures in
    on_ok_weaker c.put_fitting.result (row_there slices c.args.owner.now c.args.row.now c.in-Some.at c.index_mut.result.now c.put_fitting.new.slice there c.index_mut.ensures.value) c.put_fitting.ensures.put

pub returns-in_ok-push-in-None-clause-put : goal.returns-in_ok-push-in-None-clause-put
returns-in_ok-push-in-None-clause-put c =
    let slices = c.args.slices.now.items in
    let none : position (is_slice_of c.args.owner.now) slices ≡ None = ap (position (is_slice_of c.args.owner.now)) (sym c.deref.ensures.value) ∙ sym c.in-None.ensures in
    c.in_ok-push-in-None.ensures.items
    ∙ row_added slices c.args.owner.now c.args.row.now c.put_fitting-in-None.new.slice none (c.in_ok-put_fitting-in-None.ensures.put ∙ ap (λ s. with_row s c.args.row.now) c.new-slice.ensures)
