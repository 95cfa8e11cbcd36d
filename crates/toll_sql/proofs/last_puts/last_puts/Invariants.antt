use Rattle.std.proofs.Common.{◌≡◌, drop, reverse}
use Rattle.toll_sql.proofs.Common.{AllByRecursion, AreNoted, IsSublotValid, last_puts}
use Rattle.toll_sql.proofs.last_puts.last_puts.Given as goal

abbrev pub invariant-loop-i : goal.invariant-loop-i
invariant-loop-i l = record {
  last : l.last.items ≡ reverse (last_puts (drop l.i l.changes));
  noted : AreNoted (drop l.i l.changes) l.noted;
  valid : AllByRecursion IsSublotValid (drop l.i l.changes);
}
