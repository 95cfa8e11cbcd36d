use Rattle.std.proofs.Common.{refl}
use Rattle.std.specs.List.Sorted.{IsStrictlySortedBy}
use Rattle.toll_base.proofs.move_rows.MoveRows.new.Goals as goal

pub invariant_of-result : goal.invariant_of-result
unfolding IsStrictlySortedBy
invariant_of-result c = rw (c.new.ensures.items, c.new-2.ensures) (record { have = tt; all = refl; ordered = tt })
