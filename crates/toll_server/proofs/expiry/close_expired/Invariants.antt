-- The connections with a key below the loop's are closed if they are late, and all others are unchanged.
use Rattle.std.proofs.Common.{◌≤◌}
use Rattle.toll_server.proofs.Common.{slab_len}
use Rattle.toll_server.proofs.ExpiryLemmas.{ClosedBelow}
use Rattle.toll_server.proofs.expiry.close_expired.Given as goal

abbrev pub invariant-loop-key : goal.invariant-loop-key
invariant-loop-key g l = record {
  closed : ClosedBelow l.now l.initial.connections l.key l.connections;
  fewer : slab_len l.connections ≤ slab_len l.initial.connections;
}
