use Rattle.std.proofs.Common.{refl, sym, ◌∙◌}
use Rattle.toll_keep.proofs.Learning.{chosen_more, chosen_same}
use Rattle.toll_keep.proofs.tracing.chosen.Goals as goal
use Rattle.toll_keep.proofs.tracing.chosen.Goals.{then-is_among+in_ok-push, else-is_among}

pub loop-known-preserved : goal.loop-known-preserved
loop-known-preserved c =
    elim c.if-is_among.branch [
      | then-is_among+in_ok-push w ↦ rw (w.chosen-is, w.in_ok-push.ensures.items) (chosen_more c.args.owners.now c.args.graphs.now c.loop-known.known-index c.known-item.result c.loop-known.chosen.items _ c.loop-known-test.true c.known-item.is (sym c.is_among.ensures ∙ w.if-is_among.true) refl c.loop-known.invariant)
      | else-is_among w ↦ rw (w.chosen-is) (chosen_same c.args.owners.now c.args.graphs.now c.loop-known.known-index c.known-item.result c.loop-known.chosen.items c.loop-known-test.true c.known-item.is (sym c.is_among.ensures ∙ w.if-is_among.false) c.loop-known.invariant)
    ]
