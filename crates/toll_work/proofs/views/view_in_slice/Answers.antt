use Rattle.std.proofs.Common.{List, ◌≤◌, length, sym, subst, ◌∙◌}
use Rattle.toll_work.proofs.Common.{MOST_MOVEMENTS}
use Rattle.toll_base.specs.declared.movement.MoveRow.{MoveRow}
use Rattle.toll_work.proofs.Sums.{length-filter_le}
use Rattle.toll_work.proofs.views.view_in_slice.Goals as goal

pub lines-requires : goal.lines-requires
lines-requires c =
    subst (λ (xs : List MoveRow). length xs ≤ MOST_MOVEMENTS) (sym (c.deref.ensures.value ∙ c.in_ok-actuals.ensures))
    (length-filter_le _ c.args.slice.now.moves MOST_MOVEMENTS c.owner-owner.ensures.kept.moves)
