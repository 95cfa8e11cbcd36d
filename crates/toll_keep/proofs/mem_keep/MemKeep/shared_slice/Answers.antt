use Rattle.std.proofs.Common.{sym, ap, subst, ◌∙◌}
use Rattle.toll_keep.proofs.Common.{content_of, rows_in, IsOneEach}
use Rattle.std.proofs.lemmas.Result.{IfOk-from_err}
use Rattle.toll_keep.proofs.Contents.{written_back, kept_still, known_slice}
use Rattle.toll_keep.proofs.mem_keep.MemKeep.shared_slice.Goals as goal

pub invariant_of-self : goal.invariant_of-self
invariant_of-self c = subst IsOneEach (sym (written_back c.self.inside.slices _ (c.shared_of.ensures.same ∙ c.deref_mut.ensures.value))) c.self.invariant

pub returns-in_err-shared_of-clause-reads : goal.returns-in_err-shared_of-clause-reads
returns-in_err-shared_of-clause-reads c = IfOk-from_err c.from_residual.result _ c.from_residual.ensures.0

pub returns-in_err-shared_of-clause-same : goal.returns-in_err-shared_of-clause-same
returns-in_err-shared_of-clause-same c = kept_still _ _ c.self.inside.slices _ (c.shared_of.ensures.same ∙ c.deref_mut.ensures.value) ∙ c.self.view_is

pub invariant_of-self-2 : goal.invariant_of-self-2
invariant_of-self-2 c = subst IsOneEach (sym (written_back c.self.inside.slices _ (c.shared_of.ensures.same ∙ c.deref_mut.ensures.value))) c.self.invariant

pub returns-clause-reads : goal.returns-clause-reads
returns-clause-reads c =
    known_slice (content_of c.args.self.now) c.args.owner.now c.in_ok-shared_of.field-0 (sym c.knows.ensures ∙ c.if-not-knows.false)
    (c.in_ok-shared_of.ensures.copied ∙ ap (λ slices. rows_in slices c.args.owner.now) (c.deref_mut.ensures.value ∙ ap (λ k. k.slices) c.self.view_is))

pub returns-clause-same : goal.returns-clause-same
returns-clause-same c = kept_still _ _ c.self.inside.slices _ (c.shared_of.ensures.same ∙ c.deref_mut.ensures.value) ∙ c.self.view_is
