use Rattle.std.proofs.Common.{◌↔◌, take}
use Rattle.toll_keep.proofs.Common.{Edge, Draws, IsEdgeOfOne, content_of}
use Rattle.toll_keep.proofs.mem_keep.MemKeep.recorded_by.Given as goal

abbrev pub invariant-loop-owner : goal.invariant-loop-owner
invariant-loop-owner l = (e : Edge) → Draws l.recorded e ↔ IsEdgeOfOne (content_of l.self) (take l.owner-index l.owners) e
