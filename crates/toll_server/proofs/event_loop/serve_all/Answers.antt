use Rattle.std.proofs.Common.{◌≡◌, ◌∙◌, ◌+◌, ap, arith, refl}
use Rattle.toll_server.proofs.Common.{Accepting, Accepts, Agrees, BreaksDown, EndsSo, server_at}
use Rattle.toll_server.proofs.ListenLemmas.{accepted_listening, begins_listening, broken_listening, clocked_listening, failed_listening, listens_till, stopped_listening, waited_listening}
use Rattle.toll_server.proofs.RoundLemmas.{quiet_within, ran_none}
use Rattle.toll_server.proofs.ServingLemmas.{Asks, asked_once, asks_first, asks_kept, serves_accepted, serves_quietly, serves_turn, serves_unheard, serves_waited}
use Rattle.toll_server.proofs.TallyLemmas.{OnlyClock, OnlyListening, clock_went_on, on_err, tallies_begin, tallies_then, tallies_weaker}
use Rattle.toll_server.specs.declared.event_loop.ServingEnd.TheVariants.{All, Fault}
use Rattle.toll_server.proofs.event_loop.serve_all.Goals as goal

pub loop-init : goal.loop-init
loop-init g c = record {
  served = (ran_none g.O.Party.PartialEq.eq g.W.Stream.Source g.W.Stream.Sink c.args.connections.now.most_open (server_at c.args.connections.now Accepting) _, refl);
  event_count = omega (arith, c.requires.fresh);
  most_open = refl;
  listens = begins_listening c.args.connections.now.owners_left c.args.connections.now.owners_left _ refl;
  starts = λ _. (c.requires.open, refl);
  asks = tallies_begin (Asks c.args.connections.now.owners_left 0) _ _ refl (λ t. (omega arith, λ never. absurd (omega (arith, never))));
  waits = tallies_begin (λ t u. u.waits ≡ t.waits + 0) _ _ refl (λ t. omega arith);
}

pub loop-preserved : goal.loop-preserved
loop-preserved g c =
    let count = c.args.connections.now.owners_left in
    let left = c.accept.new.self.owners_left in
    let most = c.args.connections.now.most_open in
    let first = server_at c.args.connections.now Accepting in
    let before = c.args.service.now in
    let service = c.loop.service in
    let (now, w) = c.in-Ok.ensures.waited in
    let later = c.take_turn.new.self in
    let waits = c.loop.counter + 1 in
    let clock = clock_went_on c.wait_and_advance.new.connections.slots later.slots _ _ c.take_turn.ensures.deadline in
    let kept = c.wind_down.ensures.most_open ∙ (c.accept.ensures.most_open ∙ c.loop.invariant.most_open) in
    let stays : later.owners_left ≡ left = c.take_turn.ensures.owners_left ∙ (c.wait_and_advance.ensures.owners_left ∙ c.wind_down.ensures.owners_left) in
    record {
      served = serves_turn g.O.Party.PartialEq.eq g.O.Service.is_by g.O.Service.answers g.O.Service.resumes g.W.Stream.Source g.W.Stream.Sink most first c.wait_and_advance.new.connections later before service c.take_turn.new.service _ _ _
          (serves_waited g.O.Party.PartialEq.eq g.O.Service.is_by g.O.Service.answers g.O.Service.resumes g.W.Stream.Source g.W.Stream.Sink most now first c.wind_down.new.self c.wait_and_advance.new.connections before service _ _ _
          (serves_accepted g.O.Party.PartialEq.eq g.O.Service.is_by g.O.Service.answers g.O.Service.resumes g.W.Stream.Source g.W.Stream.Sink most first c.loop.connections c.accept.new.self c.wind_down.new.self before service _ _ _ _
          c.loop.invariant.served c.loop.invariant.most_open c.accept.ensures.ran c.stop_listening.ensures.rest c.wind_down.ensures.readers c.wind_down.ensures.event_count c.wind_down.ensures.owners_left) kept c.wait_and_advance.ensures.owners_left w)
          (c.wait_and_advance.ensures.most_open ∙ kept) c.take_turn.ensures.owners_left c.take_turn.ensures.turn clock;
      event_count = omega (arith, c.take_turn.ensures.more, c.wait_and_advance.ensures.event_count, c.wind_down.ensures.event_count, c.accept.ensures.event_count, c.loop.invariant.event_count);
      most_open = c.take_turn.ensures.most_open ∙ (c.wait_and_advance.ensures.most_open ∙ kept);
      listens = clocked_listening count later.owners_left waits _ _ _ clock
          (waited_listening g.O.Party.PartialEq.eq g.O.Service.is_by g.O.Service.answers g.O.Service.resumes g.W.Stream.Source g.W.Stream.Sink now count left later.owners_left waits c.wind_down.new.self c.wait_and_advance.new.connections _ _ _ (omega arith) stays w
          (stopped_listening count left waits _ _ _ c.stop_listening.ensures.listens c.stop_listening.ensures.rest
          (accepted_listening c.accept.result c.loop.connections.accept_state count c.loop.connections.owners_left left c.loop.counter _ _ _ c.accept.ensures.left c.accept.ensures.tally
          c.accept.ensures.listens c.loop.invariant.listens)));
      starts = λ none. absurd (omega (arith, none));
      asks = asks_kept count waits OnlyClock _ _ _ (λ t u r. ap (λ x. x.accepts) r) clock
          (asks_kept count waits _ _ _ _ (λ t u r. ap (λ x. x.accepts) r.4) w.known
          (asks_kept count waits OnlyListening _ _ _ (λ t u r. ap (λ x. x.accepts) r) c.stop_listening.ensures.rest
          (asks_first c.accept.result c.loop.connections.accept_state count c.loop.counter c.loop.connections.owners_left left _ _ _ c.loop.invariant.starts c.accept.ensures.tally c.loop.invariant.asks)));
      waits = tallies_then (λ t u. u.waits ≡ t.waits + waits) OnlyClock (λ t u. u.waits ≡ t.waits + waits) _ _ _
          (tallies_then (λ t u. u.waits ≡ t.waits + c.loop.counter) _ (λ t u. u.waits ≡ t.waits + waits) _ _ _
          (tallies_then (λ t u. u.waits ≡ t.waits + c.loop.counter) OnlyListening (λ t u. u.waits ≡ t.waits + c.loop.counter) _ _ _
          (tallies_then (λ t u. u.waits ≡ t.waits + c.loop.counter) (Accepts c.accept.result c.loop.connections.accept_state c.loop.connections.owners_left left) (λ t u. u.waits ≡ t.waits + c.loop.counter) _ _ _
          c.loop.invariant.waits c.accept.ensures.tally (λ t u v p r. r.1 ∙ p)) c.stop_listening.ensures.rest (λ t u v p r. ap (λ x. x.waits) r ∙ p))
          w.known (λ t u v p r. omega (arith, p, ap (λ x. x.waits) r.4))) clock (λ t u v p r. ap (λ x. x.waits) r ∙ p);
    }

pub returns-then-is_err : goal.returns-then-is_err
returns-then-is_err g c =
    let count = c.args.connections.now.owners_left in
    let left = c.accept.new.self.owners_left in
    let most = c.args.connections.now.most_open in
    let first = server_at c.args.connections.now Accepting in
    let before = c.args.service.now in
    let service = c.loop.service in
    let waits = c.loop.counter + 1 in
    record {
      served = serves_quietly g.O.Party.PartialEq.eq g.O.Service.is_by g.O.Service.answers g.O.Service.resumes g.W.Stream.Source g.W.Stream.Sink most first (server_at c.loop.connections Accepting) (server_at c.accept.new.self Accepting) before service _ _ _ c.loop.invariant.served
          (quiet_within g.O.Party.PartialEq.eq g.W.Stream.Source g.W.Stream.Sink c.loop.connections.most_open most (server_at c.loop.connections Accepting) (server_at c.accept.new.self Accepting) _ _ c.loop.invariant.most_open c.accept.ensures.ran);
      over = λ over. absurd (cc over);
      end = tallies_then (Asks count c.loop.counter) (Accepts c.accept.result c.loop.connections.accept_state c.loop.connections.owners_left left) (EndsSo Fault count) _ _ _
          c.loop.invariant.asks c.accept.ensures.tally (λ t u v p r. let (owners, so_many, wakes, unheard, missed, clock, err, request, more) = r in
          on_err c.accept.result (let e = c.is_err.ensures in let is = c.if-is_err.true in cc) err);
      listens = listens_till count left waits _ _ (omega arith) (failed_listening count left waits _ _
          (on_err c.accept.result (let e = c.is_err.ensures in let is = c.if-is_err.true in cc) c.accept.ensures.fails) (accepted_listening c.accept.result c.loop.connections.accept_state count c.loop.connections.owners_left left c.loop.counter _ _ _ c.accept.ensures.left c.accept.ensures.tally c.accept.ensures.listens c.loop.invariant.listens));
      asks = asked_once count waits _ _ (omega arith) (asks_first c.accept.result c.loop.connections.accept_state count c.loop.counter c.loop.connections.owners_left left _ _ _ c.loop.invariant.starts c.accept.ensures.tally c.loop.invariant.asks);
    }

pub returns-then-is_over : goal.returns-then-is_over
returns-then-is_over g c =
    let count = c.args.connections.now.owners_left in
    let left = c.accept.new.self.owners_left in
    let most = c.args.connections.now.most_open in
    let first = server_at c.args.connections.now Accepting in
    let before = c.args.service.now in
    let service = c.loop.service in
    let waits = c.loop.counter + 1 in
    let served = serves_accepted g.O.Party.PartialEq.eq g.O.Service.is_by g.O.Service.answers g.O.Service.resumes g.W.Stream.Source g.W.Stream.Sink most first c.loop.connections c.accept.new.self c.wind_down.new.self before service _ _ _ _
    c.loop.invariant.served c.loop.invariant.most_open c.accept.ensures.ran c.stop_listening.ensures.rest c.wind_down.ensures.readers c.wind_down.ensures.event_count c.wind_down.ensures.owners_left in
    record {
      served = served;
      over = λ _. (c.is_over.ensures.0 c.if-is_over.true).1;
      end = tallies_weaker (Agrees first served.0.events (server_at c.wind_down.new.self Accepting)) (EndsSo All count) _ _ served.0.net
          (λ t u p. omega (arith, p.owners, (c.is_over.ensures.0 c.if-is_over.true).0));
      listens = listens_till count left waits _ _ (omega arith) (stopped_listening count left waits _ _ _ c.stop_listening.ensures.listens c.stop_listening.ensures.rest (accepted_listening c.accept.result c.loop.connections.accept_state count c.loop.connections.owners_left left c.loop.counter _ _ _ c.accept.ensures.left c.accept.ensures.tally c.accept.ensures.listens c.loop.invariant.listens));
      asks = asked_once count waits _ _ (omega arith) (asks_kept count waits OnlyListening _ _ _ (λ t u r. ap (λ x. x.accepts) r) c.stop_listening.ensures.rest (asks_first c.accept.result c.loop.connections.accept_state count c.loop.counter c.loop.connections.owners_left left _ _ _ c.loop.invariant.starts c.accept.ensures.tally c.loop.invariant.asks));
    }

pub returns-in-Err : goal.returns-in-Err
returns-in-Err g c =
    let count = c.args.connections.now.owners_left in
    let left = c.accept.new.self.owners_left in
    let most = c.args.connections.now.most_open in
    let first = server_at c.args.connections.now Accepting in
    let before = c.args.service.now in
    let service = c.loop.service in
    let waits = c.loop.counter + 1 in
    let served = serves_accepted g.O.Party.PartialEq.eq g.O.Service.is_by g.O.Service.answers g.O.Service.resumes g.W.Stream.Source g.W.Stream.Sink most first c.loop.connections c.accept.new.self c.wind_down.new.self before service _ _ _ _
    c.loop.invariant.served c.loop.invariant.most_open c.accept.ensures.ran c.stop_listening.ensures.rest c.wind_down.ensures.readers c.wind_down.ensures.event_count c.wind_down.ensures.owners_left in
    let last = c.wait_and_advance.new.connections in
    record {
      served = serves_unheard g.O.Party.PartialEq.eq g.O.Service.is_by g.O.Service.answers g.O.Service.resumes g.W.Stream.Source g.W.Stream.Sink most first c.wind_down.new.self last before service _ _ _ c.in-Err.ensures.unheard served c.in-Err.ensures.fails;
      over = λ over. absurd (cc over);
      end = tallies_then (Agrees first served.0.events (server_at c.wind_down.new.self Accepting)) BreaksDown (EndsSo Fault count) _ _ _ served.0.net c.in-Err.ensures.fails
          (λ t u v p r. ap (λ x. x.failed) r);
      listens = listens_till count left waits _ _ (omega arith) (broken_listening count left waits _ _ _ c.in-Err.ensures.fails
          (stopped_listening count left waits _ _ _ c.stop_listening.ensures.listens c.stop_listening.ensures.rest (accepted_listening c.accept.result c.loop.connections.accept_state count c.loop.connections.owners_left left c.loop.counter _ _ _ c.accept.ensures.left c.accept.ensures.tally c.accept.ensures.listens c.loop.invariant.listens)));
      asks = asked_once count waits _ _ (omega arith) (asks_kept count waits BreaksDown _ _ _ (λ t u r. ap (λ x. x.accepts) r) c.in-Err.ensures.fails
          (asks_kept count waits OnlyListening _ _ _ (λ t u r. ap (λ x. x.accepts) r) c.stop_listening.ensures.rest (asks_first c.accept.result c.loop.connections.accept_state count c.loop.counter c.loop.connections.owners_left left _ _ _ c.loop.invariant.starts c.accept.ensures.tally c.loop.invariant.asks)));
    }

pub returns-clause-served : goal.returns-clause-served
returns-clause-served g c = c.loop.invariant.served

pub returns-clause-listens : goal.returns-clause-listens
returns-clause-listens g c = listens_till c.args.connections.now.owners_left c.loop.connections.owners_left c.loop.counter _ _ (omega arith) c.loop.invariant.listens

pub returns-clause-asks : goal.returns-clause-asks
returns-clause-asks g c = asked_once c.args.connections.now.owners_left c.loop.counter _ _ (omega arith) c.loop.invariant.asks
