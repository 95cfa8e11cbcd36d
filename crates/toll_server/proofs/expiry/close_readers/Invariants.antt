-- The connections that aren't reading are still there, and no other was added.
use Rattle.std.proofs.Common.{◌≤◌}
use Rattle.toll_server.proofs.Common.{slab_len, KeepsSubmitted, NoneNew}
use Rattle.toll_server.proofs.expiry.close_readers.Given as goal

abbrev pub invariant-loop : goal.invariant-loop
invariant-loop g l = record {
  submitted : KeepsSubmitted l.initial.connections l.connections;
  none_new : NoneNew l.initial.connections l.connections;
  fewer : slab_len l.connections ≤ slab_len l.initial.connections;
}

abbrev pub decreases-loop : goal.decreases-loop
decreases-loop g l = slab_len l.connections
