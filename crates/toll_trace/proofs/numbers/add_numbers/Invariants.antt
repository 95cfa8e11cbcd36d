use Rattle.std.proofs.Common.{take}
use Rattle.toll_trace.proofs.Common.{AreAllNumbers}
use Rattle.toll_trace.proofs.numbers.add_numbers.Given as goal

abbrev pub invariant-loop-lot : goal.invariant-loop-lot
invariant-loop-lot l = AreAllNumbers l.lots (take l.lot-index l.those) l.numbers.items
