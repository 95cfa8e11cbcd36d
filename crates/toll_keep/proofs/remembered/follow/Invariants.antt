use Rattle.std.proofs.Common.{◌≡◌, drop}
use Rattle.toll_keep.proofs.Common.{after_changes}
use Rattle.toll_keep.proofs.remembered.follow.Given as goal

-- With the changes to come, the rows are those after all changes.
abbrev pub invariant-loop-change : goal.invariant-loop-change
invariant-loop-change l = after_changes (drop l.change-index l.changes) l.rows ≡ after_changes l.changes l.fn.slice
