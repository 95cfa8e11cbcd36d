use Rattle.std.proofs.Common.{◌≡◌, ◌++◌, subst, sym, ap, ◌∙◌, take, ◌+◌}
use Rattle.toll_keep.proofs.Common.{AreGathered}
use Rattle.toll_keep.proofs.AllOwners.{gathered_next}
use Rattle.toll_keep.proofs.everyone.edges_among.Goals as goal

pub loop-slice-preserved : goal.loop-slice-preserved
loop-slice-preserved c =
    let added : c.extend_from_slice.new.self.items ≡ c.loop-slice.edges.items ++ c.in_ok-edges_of.field-0.items = c.in_ok-extend_from_slice.ensures.items ∙ ap (λ more. c.loop-slice.edges.items ++ more) c.deref.ensures.value in
    subst (AreGathered (take (c.loop-slice.slice-index + 1) c.args.slices.now)) (sym added)
    (gathered_next c.args.slices.now c.loop-slice.slice-index c.slice-item.result _ _ c.loop-slice-test.true c.slice-item.is c.loop-slice.invariant c.in_ok-edges_of.ensures)
