use Rattle.std.proofs.Common.{◌≡◌, ◌*◌, ◌≤◌, take}
use Rattle.toll_work.specs.BatchView.{amount_for}
use Rattle.toll_work.proofs.views.amount_for.Given as goal

abbrev pub invariant-loop-actual : goal.invariant-loop-actual
invariant-loop-actual l = record {
  is : l.sum ≡ amount_for l.row (take l.actual-index l.actuals);
  most : l.sum ≤ 1000000000 * l.actual-index;
}
