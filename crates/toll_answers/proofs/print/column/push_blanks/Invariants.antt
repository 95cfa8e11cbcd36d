-- The blanks so far.
use Rattle.std.proofs.Common.{◌≡◌, ◌++◌}
use Rattle.toll_answers.specs.Columns.{blanks}
use Rattle.toll_answers.proofs.print.column.push_blanks.Given as goal

abbrev pub invariant-loop : goal.invariant-loop
invariant-loop l = l.text.items ≡ l.fn.text.items ++ blanks l.counter
