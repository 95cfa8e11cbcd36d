use Rattle.std.proofs.Common.{sym, ap, subst, ◌∙◌}
use Rattle.toll_keep.proofs.Common.{rows_in, IsOneEach}
use Rattle.toll_keep.specs.Common.{Put, after_change}
use Rattle.toll_keep.proofs.Contents.{same_content}
use Rattle.toll_keep.proofs.Outcomes.{on_ok_weaker, either_way}
use Rattle.toll_keep.proofs.Slicing.{one_each-put, rows_after}
use Rattle.toll_keep.proofs.mem_keep.MemKeep.make.Goals as goal

pub invariant_of-self-in-Put : goal.invariant_of-self-in-Put
invariant_of-self-in-Put c =
    either_way c.put_for.result
    (λ made. subst IsOneEach (sym made) (one_each-put c.self.inside.slices.items _ c.self.invariant))
    (λ same. subst IsOneEach (sym same) c.self.invariant)
    c.put_for.ensures.put c.put_for.ensures.none

pub returns-in-Put : goal.returns-in-Put
returns-in-Put c =
    rw c.in-Put.is (on_ok_weaker c.put_for.result
    (λ made. same_content _ _ (ap (λ k. k.owners) c.self.view_is) (ap (λ k. k.units) c.self.view_is)
    (λ o. ap (λ slices. rows_in slices o) made
    ∙ rows_after c.self.inside.slices.items c.in-Put.owner c.in-Put.row o
    ∙ ap (λ k. after_change (Put c.in-Put.owner c.in-Put.row) (rows_in k.slices o)) c.self.view_is))
    c.put_for.ensures.put)
