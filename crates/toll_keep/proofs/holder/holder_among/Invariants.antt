use Rattle.std.proofs.Common.{None}
use Rattle.toll_keep.proofs.Common.{AllWithin, IsHolderIn}
use Rattle.toll_keep.proofs.holder.holder_among.Given as goal

-- None of the slices so far has a batch that holds the unit.
abbrev pub invariant-loop-slice : goal.invariant-loop-slice
invariant-loop-slice l = AllWithin (λ s. IsHolderIn s l.unit None) l.slices 0 l.slice-index
