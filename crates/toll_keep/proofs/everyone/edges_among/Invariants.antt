use Rattle.std.proofs.Common.{take}
use Rattle.toll_keep.proofs.Common.{AreGathered}
use Rattle.toll_keep.proofs.everyone.edges_among.Given as goal

abbrev pub invariant-loop-slice : goal.invariant-loop-slice
invariant-loop-slice l = AreGathered (take l.slice-index l.slices) l.edges.items
