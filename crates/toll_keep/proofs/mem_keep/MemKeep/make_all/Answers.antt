use Rattle.std.proofs.Common.{◌+◌, [], ◌∷◌, drop, sym, ap, ◌∙◌}
use Rattle.toll_keep.proofs.Common.{at_drop_all, content_after, content_of}
use Rattle.toll_keep.proofs.Changed.{next_left}
use Rattle.toll_keep.proofs.StagedLemmas.{after_behind}
use Rattle.toll_keep.proofs.mem_keep.MemKeep.make_all.Goals as goal

pub loop-change-preserved : goal.loop-change-preserved
loop-change-preserved c =
    let changes = c.args.changes.now in
    let one = c.change-item.result in
    let rest = drop (c.loop-change.change-index + 1) changes in
    let now = content_of c.loop-change.self in
    let here = next_left changes c.loop-change.change-index one c.loop-change-test.true c.change-item.is in
    ap (content_after rest) c.in_ok-make.ensures
    ∙ sym (after_behind (one ∷ []) rest now)
    ∙ ap (λ todo. content_after todo now) (sym here)
    ∙ c.loop-change.invariant

pub returns : goal.returns
returns c = sym (at_drop_all (λ todo. content_after todo (content_of c.loop-change.self)) c.args.changes.now c.loop-change.change-index c.loop-change-test.false) ∙ c.loop-change.invariant
