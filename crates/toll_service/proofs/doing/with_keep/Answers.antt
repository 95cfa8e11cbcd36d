use Rattle.std.proofs.Common.{rules, refl}
use Rattle.toll_service.proofs.doing.with_keep.Goals as goal

pub returns-clause-done : goal.returns-clause-done
returns-clause-done g c = record {
  first = c.in_ok-keep.keep;
  last = c.act-done.new.arg2;
  opened = search rules;
  done = record { shown = _; shows = refl; left = _; met = c.act-done.ensures; leaves = refl };
}
