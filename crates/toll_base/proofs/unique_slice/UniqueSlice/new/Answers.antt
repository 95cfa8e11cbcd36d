use Rattle.toll_base.proofs.SliceFits.{empty_keeps}
use Rattle.toll_base.proofs.unique_slice.UniqueSlice.new.Goals as goal

pub invariant_of-result : goal.invariant_of-result
invariant_of-result c = rw c.new.ensures (empty_keeps c.args.owner)
