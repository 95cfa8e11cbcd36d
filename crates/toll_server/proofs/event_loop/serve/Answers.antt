use Rattle.std.proofs.Common.{◌<◌, refl}
use Rattle.toll_server.proofs.Common.{Accepting, EndsSo, IsNew, ListensTill, server_at, tasks_in}
use Rattle.toll_server.proofs.ConnectionLemmas.{empty_none, no_connection}
use Rattle.toll_server.proofs.RoundLemmas.{turned}
use Rattle.toll_server.proofs.TallyLemmas.{tallies_at}
use Rattle.toll_server.proofs.event_loop.serve.Goals as goal

pub returns : goal.returns
returns g c =
    let made = c.new-connections.ensures in
    let all = c.serve_all.ensures in
    let first = server_at c.new-connections.result Accepting in
    let last = server_at c.serve_all.new.connections Accepting in
    let (ran, served) = all.served in
    let fresh : IsNew c.args.count first
    = record { none = no_connection c.new-connections.result.slots made.empty; event_count = made.event_count; owners_left = made.owners_left; stage = refl } in
    let (in_turn, run) = turned g.O.Party.PartialEq.eq g.W.Stream.Source g.W.Stream.Sink c.new-connections.result.most_open g.met.O.Party.Eq.laws g.O.Service.is_by g.O.Service.answers g.O.Service.resumes
    c.args.count first last ran.events c.args.service.now c.serve_all.new.service fresh ran.run served in
    record {
      events = (
        c.new-connections.result.most_open,
        record {
          admits = made.most_open;
          first = first;
          fresh = fresh;
          last = last;
          rests = refl;
          ran = ran;
          served = served;
          over = λ over. no_connection c.serve_all.new.connections.slots (all.over over);
        },
      );
      run = (tasks_in last.slots, run, λ over. empty_none c.serve_all.new.connections.slots (all.over over));
      in_turn = in_turn;
      end = tallies_at (λ n t u. EndsSo c.serve_all.result n t u) c.new-connections.result.owners_left c.args.count _ _ made.owners_left all.end;
      listens = tallies_at (λ n t u. ListensTill n t u) c.new-connections.result.owners_left c.args.count _ _ made.owners_left all.listens;
      asks = tallies_at (λ n t u. 0 < n → t.accepts < u.accepts) c.new-connections.result.owners_left c.args.count _ _ made.owners_left all.asks;
    }
