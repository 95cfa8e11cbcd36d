use Rattle.std.proofs.Common.{sym, ◌∙◌, ap, Some}
use Rattle.toll_keep.proofs.RememberedLemmas.{found_owner, remembered_for, remembered_there}
use Rattle.toll_keep.proofs.remembered.remembered.Goals as goal

pub returns-clause-own : goal.returns-clause-own
returns-clause-own c = λ content all.
    remembered_there content c.args.slices.now c.args.owner.now c.in_ok-index_of_slice.field-0 c.index-slices-branch.result (sym c.in_ok-index_of_slice.ensures) all ∙ ap (λ s. Some s) (sym c.index-slices-branch.is)

pub returns-clause-alone : goal.returns-clause-alone
returns-clause-alone c = λ os content own all.
    remembered_for os content c.args.slices.now c.args.owner.now c.in_ok-index_of_slice.field-0 c.index-slices-branch.result (sym c.in_ok-index_of_slice.ensures) own all ∙ ap (λ s. Some s) (sym c.index-slices-branch.is)

pub returns-clause-named : goal.returns-clause-named
returns-clause-named c =
    ap (λ s. s.owner) c.index-slices-branch.is ∙ found_owner c.args.slices.now c.args.owner.now c.in_ok-index_of_slice.field-0 c.index-slices-branch.result (sym c.in_ok-index_of_slice.ensures)
