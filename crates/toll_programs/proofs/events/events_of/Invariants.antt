-- The lines so far, and those that are left.
use Rattle.std.proofs.Common.{ℕ, ◌+◌, ◌≤◌, length, List, Option, Some, None}
use Rattle.std.specs.Borrow.{Bor}
use Rattle.toll_programs.proofs.LineLemmas.{ReadSoFar, lines_left}
use Rattle.toll_programs.proofs.events.events_of.Given as goal

-- how many bytes are left, plus one for the line that follows them
abbrev bytes_left : Option (Bor (List ℕ)) → ℕ
bytes_left None = 0
bytes_left (Some lines) = length lines.now + 1

abbrev pub invariant-loop-rest : goal.invariant-loop-rest
invariant-loop-rest l = record {
  counted : l.number + bytes_left l.rest ≤ length l.fn.text + 1;
  read : ReadSoFar l.fn.text l.number l.events.items (lines_left l.rest);
}

abbrev pub decreases-loop-rest : goal.decreases-loop-rest
decreases-loop-rest l = bytes_left l.rest
