use Rattle.std.proofs.Common.{take}
use Rattle.toll_trace.proofs.Common.{AreEntered, is_marked}
use Rattle.toll_trace.proofs.search.enter.Given as goal

abbrev pub invariant-loop-span : goal.invariant-loop-span
invariant-loop-span l = AreEntered l.targets (is_marked l.marks) (take l.span-index l.sources) l.lows l.fn.numbers.items l.numbers.items
