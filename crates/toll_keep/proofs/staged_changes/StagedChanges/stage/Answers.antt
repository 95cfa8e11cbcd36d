use Rattle.std.proofs.Common.{◌≡◌, ◌++◌, false, sym, ap, subst, ◌∙◌, map}
use Rattle.toll_keep.proofs.Common.{list_any, after_changes, content_after, AreOf, is_addition}
use Rattle.toll_keep.proofs.Outcomes.{of_ok}
use Rattle.toll_keep.proofs.StagedLemmas.{none_added, slices_behind}
use Rattle.toll_keep.proofs.staged_changes.StagedChanges.stage.Goals as goal

pub returns-then-is_ok-clause-over : goal.returns-then-is_ok-clause-over
returns-then-is_ok-clause-over c = λ content over.
    let before = c.args.self.now.changes.items in
    let more = c.args.changes.now in
    let grown : c.extend_from_slice.new.self.items ≡ before ++ more = c.in_ok-extend_from_slice.ensures.items in
    let followed = of_ok c.follow_all.result (sym c.is_ok.ensures.value ∙ c.if-is_ok.true) c.follow_all.ensures in
    let slices = followed ∙ ap (λ v. map (after_changes more) v.items) c.replace-slices.ensures.value in
    record {
      slices = subst (λ changes. AreOf (content_after changes content) c.follow_all.new.slices.items) (sym grown)
          (subst (AreOf (content_after (before ++ more) content)) (sym slices) (slices_behind before more content c.args.self.now.slices.items over.slices));
      puts = subst (λ changes. list_any is_addition changes ≡ false) (sym grown) (none_added before more over.puts (sym c.has_addition.ensures ∙ c.if-has_addition.false));
    }
