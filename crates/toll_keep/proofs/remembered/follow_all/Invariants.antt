use Rattle.std.proofs.Common.{◌≡◌, ◌++◌, map, take, drop}
use Rattle.toll_keep.proofs.Common.{after_changes}
use Rattle.toll_keep.proofs.remembered.follow_all.Given as goal

-- The slices so far are those after all changes.
abbrev pub invariant-loop-slice : goal.invariant-loop-slice
invariant-loop-slice l = l.slice-items ≡ map (after_changes l.changes) (take l.slice-index l.fn.slices.items) ++ drop l.slice-index l.fn.slices.items
