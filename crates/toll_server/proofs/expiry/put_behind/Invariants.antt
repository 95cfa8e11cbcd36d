-- The party's connections with a key below the loop's begin their waits anew, and all others are unchanged.
use Rattle.toll_server.proofs.ExpiryLemmas.{PutBehind}
use Rattle.toll_server.proofs.expiry.put_behind.Given as goal

abbrev pub invariant-loop-key : goal.invariant-loop-key
invariant-loop-key g l = PutBehind g.P.PartialEq.eq l.party l.event_count l.initial.connections l.key l.connections
