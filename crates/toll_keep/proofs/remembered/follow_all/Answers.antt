use Rattle.std.proofs.Common.{◌<◌, length, set, sym, ap, subst, ◌∙◌}
use Rattle.toll_keep.proofs.Common.{after_changes}
use Rattle.std.proofs.lemmas.List.Edits.{map_over_more}
use Rattle.toll_keep.proofs.remembered.follow_all.Goals as goal

pub loop-slice-preserved : goal.loop-slice-preserved
loop-slice-preserved c =
    let at = c.loop-slice.slice-index in
    let made = after_changes c.args.changes.now in
    let inside : at < length c.args.slices.now.items = subst (λ items. at < length items) c.deref_mut-slice-items.ensures.value c.loop-slice-test.true in
    ap (set c.loop-slice.slice-items at) (c.in_ok-follow.ensures ∙ ap made (sym c.slice-item.is))
    ∙ map_over_more made c.args.slices.now.items c.loop-slice.slice-items at c.slice-item.result inside c.loop-slice.invariant c.slice-item.is
