-- The connections below the loop's key were counted.
use Rattle.std.proofs.Common.{◌≡◌, ◌≤◌, take, count_by}
use Rattle.toll_server.proofs.Common.{is_included_at}
use Rattle.toll_server.proofs.expiry.number_of.Given as goal

abbrev pub invariant-loop-key : goal.invariant-loop-key
invariant-loop-key g l = record {
  counted : l.number ≡ count_by (is_included_at l.filter) (take l.key l.connections.slots);
  bound : l.number ≤ l.key;
}
