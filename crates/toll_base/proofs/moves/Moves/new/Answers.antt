use Rattle.std.proofs.Common.{refl}
use Rattle.toll_base.proofs.Common.{row_at}
use Rattle.toll_base.proofs.moves.Moves.new.Goals as goal

pub invariant_of-result : goal.invariant_of-result
unfolding row_at
invariant_of-result c = λ o n. rw (c.new.ensures, c.new-2.ensures) refl
