use Rattle.std.proofs.Common.{append_assoc, refl}
use Rattle.toll_plant.specs.Usages.{indented}
use Rattle.toll_plant.proofs.usage.push_indented.Goals as goal

pub returns : goal.returns
unfolding indented
returns c = rw (c.in_ok-push_call.ensures, c.in_ok-extend_from_slice.ensures.items, append_assoc) refl
