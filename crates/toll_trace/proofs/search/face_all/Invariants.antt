use Rattle.toll_trace.proofs.Parts.{AreFacedSoFar}
use Rattle.toll_trace.proofs.search.face_all.Given as goal

abbrev pub invariant-loop-part : goal.invariant-loop-part
invariant-loop-part l = AreFacedSoFar l.lots l.fn.parts.items l.part-items l.part-index
