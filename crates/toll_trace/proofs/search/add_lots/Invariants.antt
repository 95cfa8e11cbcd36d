use Rattle.std.proofs.Common.{take}
use Rattle.toll_trace.proofs.Common.{AreAdded}
use Rattle.toll_trace.proofs.search.add_lots.Given as goal

abbrev pub invariant-loop-number : goal.invariant-loop-number
invariant-loop-number l = AreAdded l.all (take l.number-index l.numbers) l.fn.lots.items l.lots.items
