-- This many ready connections were read, one after another.
use Rattle.std.proofs.Common.{◌≡◌, ◌≤◌, ◌+◌}
use Rattle.toll_server.proofs.ServingLemmas.{HeardSoFar}
use Rattle.toll_server.proofs.event_loop.advance_all.Given as goal

abbrev pub invariant-loop : goal.invariant-loop
invariant-loop g l = record {
  heard : HeardSoFar g.O.Party.PartialEq.eq g.O.Service.is_by g.O.Service.answers g.O.Service.resumes g.W.Stream.Source g.W.Stream.Sink l.initial.connections l.connections l.counter
      (g.W.Network.tally l.initial.network) (g.W.Network.tally l.network);
  event_count : l.connections.event_count ≤ l.initial.connections.event_count + l.counter;
  most_open : l.connections.most_open ≡ l.initial.connections.most_open;
  owners_left : l.connections.owners_left ≡ l.initial.connections.owners_left;
}
