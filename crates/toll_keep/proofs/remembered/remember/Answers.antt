use Rattle.std.proofs.Common.{◌≡◌, Some, [], ◌∷◌, ◌++◌, cond, is_ok, sym, ap, ◌∙◌}
use Rattle.toll_keep.proofs.Common.{not-false, same_bytes, after_changes, same_bytes-exact}
use Rattle.toll_keep.proofs.RememberedLemmas.{perhaps_more, perhaps_more_for}
use Rattle.toll_keep.proofs.remembered.remember.Goals as goal

pub returns-clause-own : goal.returns-clause-own
returns-clause-own c = λ content there all.
    let before = c.args.slices.now.items in
    let laid = c.follow.new.slice in
    let is : laid ≡ after_changes c.args.changes.now c.args.read = c.in_ok-follow.ensures in
    let own : laid.owner ≡ c.args.owner.now = sym c.owner.ensures.owner ∙ same_bytes-exact c.owner.result.now c.args.owner.now (not-false (same_bytes c.owner.result.now c.args.owner.now) (sym c.ne.ensures ∙ c.if-ne.false)) in
    perhaps_more content before c.push.new.self.items laid c.args.owner.now (is_ok c.push.result) own (there ∙ ap (λ s. Some s) (sym is))
    (c.push.ensures.items ∙ ap (λ s. cond (is_ok c.push.result) (before ++ s ∷ []) before) (c.in-Ok.ensures.copied ∙ c.without_spare_room-read.ensures)) all

pub returns-clause-apart : goal.returns-clause-apart
returns-clause-apart c = λ os content there all.
    let before = c.args.slices.now.items in
    let laid = c.follow.new.slice in
    let is : laid ≡ after_changes c.args.changes.now c.args.read = c.in_ok-follow.ensures in
    let own : laid.owner ≡ c.args.owner.now = sym c.owner.ensures.owner ∙ same_bytes-exact c.owner.result.now c.args.owner.now (not-false (same_bytes c.owner.result.now c.args.owner.now) (sym c.ne.ensures ∙ c.if-ne.false)) in
    perhaps_more_for os content before c.push.new.self.items laid c.args.owner.now (is_ok c.push.result) own (λ mine. there mine ∙ ap (λ s. Some s) (sym is))
    (c.push.ensures.items ∙ ap (λ s. cond (is_ok c.push.result) (before ++ s ∷ []) before) (c.in-Ok.ensures.copied ∙ c.without_spare_room-read.ensures)) all
