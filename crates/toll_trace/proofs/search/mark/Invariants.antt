use Rattle.std.proofs.Common.{take}
use Rattle.toll_trace.proofs.Common.{AreMarked}
use Rattle.toll_trace.proofs.search.mark.Given as goal

abbrev pub invariant-loop-number : goal.invariant-loop-number
invariant-loop-number l = AreMarked l.fn.marks (take l.number-index l.numbers) l.marks
