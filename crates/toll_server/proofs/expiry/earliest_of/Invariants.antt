-- The earliest of the connections with a key below the loop's.
use Rattle.toll_server.proofs.ExpiryLemmas.{Found}
use Rattle.toll_server.proofs.expiry.earliest_of.Given as goal

abbrev pub invariant-loop-key : goal.invariant-loop-key
invariant-loop-key g l = Found l.filter l.connections l.key l.first
