-- The server has run so far, and the service did what its events have it do. There were as many waits as rounds, and the network listened
-- while owners were still to be accepted.
use Rattle.std.proofs.Common.{◌≡◌, ◌≤◌, ◌+◌, ◌*◌}
use Rattle.toll_server.proofs.Common.{Accepting, Open, ServesFrom, Tallies, server_at}
use Rattle.toll_server.proofs.ListenLemmas.{ListensSoFar}
use Rattle.toll_server.proofs.ServingLemmas.{Asks}
use Rattle.toll_server.specs.declared.network.TheConstants.{MOST_READY}
use Rattle.toll_server.proofs.event_loop.serve_all.Given as goal

abbrev pub invariant-loop : goal.invariant-loop
invariant-loop g l = record {
  served : ServesFrom g.O.Party.PartialEq.eq g.O.Service.is_by g.O.Service.answers g.O.Service.resumes g.W.Stream.Source g.W.Stream.Sink l.initial.connections.most_open
      (server_at l.initial.connections Accepting) (server_at l.connections Accepting) l.initial.service l.service (g.W.Network.tally l.initial.network) (g.W.Network.tally l.network);
  event_count : l.connections.event_count ≤ l.counter * (MOST_READY + 1);
  most_open : l.connections.most_open ≡ l.initial.connections.most_open;
  listens : Tallies (ListensSoFar l.initial.connections.owners_left l.connections.owners_left l.counter) (g.W.Network.tally l.initial.network) (g.W.Network.tally l.network);
  starts : l.counter ≡ 0 → (l.connections.accept_state ≡ Open) × (l.connections.owners_left ≡ l.initial.connections.owners_left);
  asks : Tallies (Asks l.initial.connections.owners_left l.counter) (g.W.Network.tally l.initial.network) (g.W.Network.tally l.network);
  waits : Tallies (λ t u. u.waits ≡ t.waits + l.counter) (g.W.Network.tally l.initial.network) (g.W.Network.tally l.network);
}
