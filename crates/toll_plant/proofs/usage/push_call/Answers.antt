use Rattle.std.proofs.Common.{append_assoc, refl}
use Rattle.toll_plant.specs.Usages.{call}
use Rattle.toll_plant.proofs.usage.push_call.Goals as goal

pub returns : goal.returns
unfolding call
returns c =
    rw (c.in_ok-extend_from_slice-3.ensures.items, c.in_ok-push_values.ensures, c.in_ok-extend_from_slice-2.ensures.items, c.as_bytes.ensures.value, c.in_ok-extend_from_slice.ensures.items, append_assoc, append_assoc, append_assoc)
    refl
