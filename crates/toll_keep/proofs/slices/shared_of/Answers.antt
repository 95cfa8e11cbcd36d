use Rattle.std.proofs.Common.{◌≡◌, IfOk, ◌∙◌, sym, subst}
use Rattle.toll_keep.proofs.Slicing.{found_there, absent_there}
use Rattle.toll_keep.proofs.slices.shared_of.Goals as goal

pub returns-in-Some-clause-copied : goal.returns-in-Some-clause-copied
returns-in-Some-clause-copied c =
    let found = found_there c.args.slices.now c.args.owner.now c.in-Some.at c.index-slices-at.result (sym c.in-Some.ensures) in
    subst (λ rows. IfOk c.shared.result (λ slice. slice ≡ rows)) found c.shared.ensures.copied

pub returns-in-None-clause-copied : goal.returns-in-None-clause-copied
returns-in-None-clause-copied c = c.new.ensures ∙ sym (absent_there c.args.slices.now c.args.owner.now (sym c.in-None.ensures))
