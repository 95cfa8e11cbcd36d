use Rattle.std.proofs.Common.{take}
use Rattle.toll_trace.proofs.Common.{HaveNumbers}
use Rattle.toll_trace.proofs.numbers.numbered.Given as goal

abbrev pub invariant-loop-place : goal.invariant-loop-place
invariant-loop-place l = HaveNumbers l.lots (take l.place-index l.uses) l.all.items
