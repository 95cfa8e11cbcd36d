-- There is no zero before this place.
use Rattle.std.proofs.Common.{take}
use Rattle.toll_protocol.proofs.Common.{HasNoZero}
use Rattle.toll_protocol.proofs.frames.words.first_zero.Given as goal

abbrev pub invariant-loop-n : goal.invariant-loop-n
invariant-loop-n l = HasNoZero (take l.n l.text)
