-- The order of steps.
use Rattle.toll_trace.specs.Common.{nat_cmp, ordering_then, Ordering, lot_cmp}
use Rattle.toll_trace.specs.declared.step.Step.{Step}

-- steps by their number, then by their lot
abbrev pub step_cmp : Step → Step → Ordering
step_cmp s t = ordering_then (nat_cmp s.steps t.steps) (lot_cmp s.lot t.lot)
