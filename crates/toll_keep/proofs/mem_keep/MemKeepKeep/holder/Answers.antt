use Rattle.std.proofs.Common.{ap, subst, ◌∙◌}
use Rattle.toll_keep.proofs.Common.{IsHolder, IsHolderAmong, IsOneEach}
use Rattle.toll_keep.proofs.AllOwners.{holder_of_some}
use Rattle.toll_keep.proofs.mem_keep.MemKeepKeep.holder.Goals as goal

pub returns-clause-reads : goal.returns-clause-reads
returns-clause-reads c = λ _ d held.
    subst (λ content. IsHolder content c.args.unit.now c.holder_among.result) held
    (holder_of_some c.args.self.now c.args.unit.now c.holder_among.result (subst (λ k. IsOneEach k.slices) c.self.view_is c.self.invariant)
    (subst (λ slices. IsHolderAmong slices c.args.unit.now c.holder_among.result) (c.deref.ensures.value ∙ ap (λ k. k.slices) c.self.view_is) c.holder_among.ensures))
