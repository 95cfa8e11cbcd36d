-- The accepted owners and those still to accept add up, and all accepted connections are stored. The network still listens.
use Rattle.std.proofs.Common.{◌≡◌, ◌≤◌}
use Rattle.toll_server.proofs.Common.{Accepting, Tallies, Open, server_at}
use Rattle.toll_server.proofs.AcceptLemmas.{Counts, HasCome}
use Rattle.toll_server.proofs.RoundLemmas.{RunsQuietly}
use Rattle.toll_server.proofs.connections.Connections.accept.Given as goal

abbrev pub invariant-loop : goal.invariant-loop
invariant-loop g l = record {
  tally : Tallies (Counts l.fn.self.owners_left l.self.owners_left l.counter) (g.W.Network.tally l.fn.network) (g.W.Network.tally l.network);
  come : Tallies (HasCome l.fn.self.most_open l.now l.fn.self.slots l.came l.self.slots) (g.W.Network.tally l.fn.network) (g.W.Network.tally l.network);
  ran : RunsQuietly g.P.PartialEq.eq g.S.Source g.S.Sink l.fn.self.most_open (server_at l.fn.self Accepting) (server_at l.self Accepting) (g.W.Network.tally l.fn.network) (g.W.Network.tally l.network);
  left : l.self.owners_left ≤ l.fn.self.owners_left;
  listens : Tallies (λ t u. u.is_listening ≡ t.is_listening) (g.W.Network.tally l.fn.network) (g.W.Network.tally l.network);
  accepting : l.self.accept_state ≡ Open;
  first : l.counter ≡ 0 → l.self.owners_left ≡ l.fn.self.owners_left;
  fewer : l.came ≤ l.counter;
  most_open : l.self.most_open ≡ l.fn.self.most_open;
  event_count : l.self.event_count ≡ l.fn.self.event_count;
}
