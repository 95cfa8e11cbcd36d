use Rattle.std.proofs.Common.{◌≡◌, ◌++◌, map, take}
use Rattle.std.specs.BTreeSet.{contains}
use Rattle.toll_trace.proofs.Common.{LotId, lot_cmp, step_at, is_found}
use Rattle.toll_trace.proofs.found.Found.add.Given as goal

abbrev pub invariant-loop-lot : goal.invariant-loop-lot
invariant-loop-lot l = record {
  steps : l.self-inside.steps.items ≡ l.initial.self-inside.steps.items ++ map (step_at l.steps) (take l.lot-index l.lots);
  lots : (lot : LotId) → contains lot_cmp l.self-inside.lots lot ≡ is_found l.self-inside.steps.items lot;
}
