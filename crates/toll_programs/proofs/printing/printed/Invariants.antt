-- The lines so far.
use Rattle.std.proofs.Common.{◌≡◌, take}
use Rattle.toll_programs.specs.Printing as spec
use Rattle.toll_programs.proofs.printing.printed.Given as goal

abbrev pub invariant-loop-answer : goal.invariant-loop-answer
invariant-loop-answer l = l.text.items ≡ spec.printed (take l.answer-index l.answers)
