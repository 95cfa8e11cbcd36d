-- The connection that has waited longest, of those with a key below the loop's.
use Rattle.toll_server.proofs.ExpiryLemmas.{FoundNext}
use Rattle.toll_server.proofs.expiry.next_of.Given as goal

abbrev pub invariant-loop-key : goal.invariant-loop-key
invariant-loop-key g l = FoundNext l.connections l.key l.next
