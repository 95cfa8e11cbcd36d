use Rattle.std.proofs.Common.{◌≡◌, take}
use Rattle.toll_keep.proofs.slices.shared_each.Given as goal

-- The slices stay, and those so far are copied.
abbrev pub invariant-loop-slice : goal.invariant-loop-slice
invariant-loop-slice l = record {
  same : l.slices ≡ l.fn.slices;
  copied : l.copied.items ≡ take l.slice-index l.fn.slices;
}
