-- The body begins in what is left.
use Rattle.std.proofs.Common.{◌≡◌, length}
use Rattle.toll_programs.specs.Printing as spec
use Rattle.toll_programs.proofs.printing.body_of.Given as goal

abbrev pub invariant-loop-others : goal.invariant-loop-others
invariant-loop-others l = spec.body_of l.reply ≡ spec.body_of l.rest

abbrev pub decreases-loop-others : goal.decreases-loop-others
decreases-loop-others l = length l.rest
