use Rattle.std.proofs.Common.{◌≡◌, ◌∙◌, ap, arith, refl, subst, sym, Err, Ok}
use Rattle.toll_server.proofs.Common.{Accepting, AddsConnection, AddsNext, ShowsTime, after_accept, server_at}
use Rattle.toll_server.specs.declared.network.Accepted.TheVariants.{Aborted, Connected, NoneWaiting, NoResources}
use Rattle.toll_server.specs.declared.network.NetworkFault.{NetworkFault}
use Rattle.toll_server.proofs.AcceptLemmas.{Counts, HasCome, aborted, aborted_counts, all_asked, come_none, comes_then, counts_none, lost_newcomer, lost_then, more_come, more_counts, accept_reported, no_arrival, short_then, wanted}
use Rattle.toll_server.proofs.RoundLemmas.{quiet_call, ran_none}
use Rattle.toll_server.proofs.TallyLemmas.{clock_agrees, on_err, on_ok_holds, tallies_more, tallies_weaker, time_shown}
use Rattle.toll_server.proofs.connections.Connections.accept.Goals as goal

pub returns-then-is_err-clause-added : goal.returns-then-is_err-clause-added
returns-then-is_err-clause-added g c =
    let same = on_err c.add_connection.result (let e = c.is_err.ensures.value in let is = c.if-is_err.true in cc) c.add_connection.ensures.same in
    lost_newcomer c.args.self.now c.make_room.new.self c.now-now.result c.loop.came c.vacant_key.result c.in-Ok-Connected.listener c.in-Ok-Connected.stream c.loop.self.slots c.add_connection.new.self.slots _ _ _
    (accept_reported _ _ _ _ _ c.in-Ok-Connected.field-0-is c.in-Ok-Connected.ensures) (λ paused. let yes = c.is_paused.ensures.deadline.1 paused in let no = c.if-is_paused.false in absurd cc) same c.make_room.ensures.room c.loop.invariant.come

pub returns-then-is_err-clause-ran : goal.returns-then-is_err-clause-ran
returns-then-is_err-clause-ran g c =
    let kept = on_err c.add_connection.result (let e = c.is_err.ensures.value in let is = c.if-is_err.true in cc) c.add_connection.ensures.same in
    let most = c.args.self.now.most_open in
    let first = server_at c.args.self.now Accepting in
    lost_then g.P.PartialEq.eq g.S.Source g.S.Sink most c.loop.came c.now-now.result first c.loop.self c.add_connection.new.self c.make_room.new.self c.vacant_key.result c.in-Ok-Connected.listener c.in-Ok-Connected.stream _ _ _ kept
    c.add_connection.ensures.event_count c.add_connection.ensures.owners_left c.make_room.ensures.room c.make_room.ensures.event_count c.make_room.ensures.owners_left
    (accept_reported _ _ _ _ _ c.in-Ok-Connected.field-0-is c.in-Ok-Connected.ensures) c.loop.invariant.ran

pub returns-in-Ok-NoResources-clause-added : goal.returns-in-Ok-NoResources-clause-added
returns-in-Ok-NoResources-clause-added g c =
    wanted c.args.self.now c.make_room-in-Ok-NoResources.new.self c.now-now.result c.loop.came c.vacant_key.result c.loop.self.slots _ _ _
    (accept_reported _ _ _ _ _ c.in-Ok-NoResources.field-0-is c.in-Ok-NoResources.ensures) (λ paused. let yes = c.is_paused.ensures.deadline.1 paused in let no = c.if-is_paused.false in absurd cc) c.make_room-in-Ok-NoResources.ensures.room c.loop.invariant.come

pub returns-in-Ok-NoResources-clause-ran : goal.returns-in-Ok-NoResources-clause-ran
returns-in-Ok-NoResources-clause-ran g c =
    let most = c.args.self.now.most_open in
    let first = server_at c.args.self.now Accepting in
    short_then g.P.PartialEq.eq g.S.Source g.S.Sink most c.loop.came c.now-now.result first c.loop.self c.make_room-in-Ok-NoResources.new.self c.vacant_key.result _ _ _ c.make_room-in-Ok-NoResources.ensures.room
    c.make_room-in-Ok-NoResources.ensures.event_count c.make_room-in-Ok-NoResources.ensures.owners_left
    (accept_reported _ _ _ _ _ c.in-Ok-NoResources.field-0-is c.in-Ok-NoResources.ensures) c.loop.invariant.ran

pub loop-preserved : goal.loop-preserved
loop-preserved g c =
    let added = on_ok_holds c.add_connection.result (let e = c.is_err.ensures.value in let is = c.if-is_err.false in cc) c.add_connection.ensures.added in
    let at = c.loop.self in
    let new = c.add_connection.new.self in
    let listener = c.in-Ok-Connected.listener in
    let stream = c.in-Ok-Connected.stream in
    let key = c.vacant_key.result in
    let adds = subst (λ m. AddsNext m c.now-now.result listener stream at.slots new.slots) c.loop.invariant.most_open added in
    record {
      tally = more_counts c.args.self.now.owners_left at.owners_left c.loop.counter new.owners_left key listener stream _ _ _ (accept_reported _ _ _ _ _ c.in-Ok-Connected.field-0-is c.in-Ok-Connected.ensures) c.add_connection.ensures.owners_left c.loop.invariant.tally;
      come = more_come c.args.self.now.most_open c.now-now.result c.args.self.now.slots c.loop.came key listener stream at.slots new.slots _ _ _ (accept_reported _ _ _ _ _ c.in-Ok-Connected.field-0-is c.in-Ok-Connected.ensures) c.vacant_key.ensures.value adds c.loop.invariant.come;
      ran = comes_then g.P.PartialEq.eq g.S.Source g.S.Sink c.args.self.now.most_open c.now-now.result (server_at c.args.self.now Accepting) at new key listener stream _ _ _
          (subst (λ k. AddsConnection c.args.self.now.most_open c.now-now.result (record { key = k; listener = listener; stream = stream }) at.slots new.slots) (sym c.vacant_key.ensures.value) adds)
          c.add_connection.ensures.event_count c.add_connection.ensures.owners_left (accept_reported _ _ _ _ _ c.in-Ok-Connected.field-0-is c.in-Ok-Connected.ensures) c.loop.invariant.ran;
      left = omega (arith, c.add_connection.ensures.owners_left, c.loop.invariant.left);
      listens = tallies_more (λ t u. u.is_listening ≡ t.is_listening) (λ t u. u.is_listening ≡ t.is_listening) (after_accept {E = NetworkFault} key (Ok (Connected listener stream))) _ _ _
          (accept_reported _ _ _ _ _ c.in-Ok-Connected.field-0-is c.in-Ok-Connected.ensures) (λ t u p. p) c.loop.invariant.listens;
      accepting = c.add_connection.ensures.accept_state ∙ c.loop.invariant.accepting;
      first = λ none. absurd (omega (arith, none));
      fewer = omega (arith, c.loop.invariant.fewer);
      most_open = c.add_connection.ensures.most_open ∙ c.loop.invariant.most_open;
      event_count = c.add_connection.ensures.event_count ∙ c.loop.invariant.event_count;
    }

pub loop-preserved-in-Ok-Aborted : goal.loop-preserved-in-Ok-Aborted
loop-preserved-in-Ok-Aborted g c =
    let at = c.loop.self in
    let key = c.vacant_key.result in
    record {
      tally = aborted_counts c.args.self.now.owners_left at.owners_left c.loop.counter key _ _ _ (accept_reported _ _ _ _ _ c.in-Ok-Aborted.field-0-is c.in-Ok-Aborted.ensures) c.loop.invariant.tally;
      come = aborted c.args.self.now.most_open c.now-now.result c.args.self.now.slots c.loop.came key at.slots _ _ _ (accept_reported _ _ _ _ _ c.in-Ok-Aborted.field-0-is c.in-Ok-Aborted.ensures) c.loop.invariant.come;
      ran = quiet_call g.P.PartialEq.eq g.S.Source g.S.Sink c.args.self.now.most_open (server_at c.args.self.now Accepting) (server_at at Accepting) _ _ _ c.loop.invariant.ran
          (no_arrival (server_at at Accepting) key (Ok Aborted) _ _ refl refl refl (accept_reported _ _ _ _ _ c.in-Ok-Aborted.field-0-is c.in-Ok-Aborted.ensures));
      left = c.loop.invariant.left;
      listens = tallies_more (λ t u. u.is_listening ≡ t.is_listening) (λ t u. u.is_listening ≡ t.is_listening) (after_accept {E = NetworkFault} key (Ok Aborted)) _ _ _
          (accept_reported _ _ _ _ _ c.in-Ok-Aborted.field-0-is c.in-Ok-Aborted.ensures) (λ t u p. p) c.loop.invariant.listens;
      accepting = c.loop.invariant.accepting;
      first = λ none. absurd (omega (arith, none));
      fewer = omega (arith, c.loop.invariant.fewer);
      most_open = c.loop.invariant.most_open;
      event_count = c.loop.invariant.event_count;
    }

pub returns-clause-added : goal.returns-clause-added
returns-clause-added g c =
    all_asked c.args.self.now _ c.args.self.now.owners_left c.loop.self.owners_left c.now-now.result c.loop.counter c.loop.came c.loop.self.slots _ _ (omega arith)
    (λ paused. let yes = c.is_paused.ensures.deadline.1 paused in let no = c.if-is_paused.false in absurd cc) refl refl c.loop.invariant.tally c.loop.invariant.come

pub returns-then-is_paused-clause-ran : goal.returns-then-is_paused-clause-ran
returns-then-is_paused-clause-ran g c =
    let first = server_at c.args.self.now Accepting in
    quiet_call g.P.PartialEq.eq g.S.Source g.S.Sink c.args.self.now.most_open first first _ _ _ (ran_none g.P.PartialEq.eq g.S.Source g.S.Sink c.args.self.now.most_open first _, refl) (clock_agrees first _ _ (time_shown c.now-now.result _ _ c.now-now.ensures))

pub loop-init : goal.loop-init
loop-init g c =
    let first = server_at c.args.self.now Accepting in
    let started = c.now-now.ensures in
    record {
      tally = tallies_weaker (ShowsTime c.now-now.result) (Counts c.args.self.now.owners_left c.args.self.now.owners_left 0) _ _ started counts_none;
      come = tallies_weaker (ShowsTime c.now-now.result) (HasCome c.args.self.now.most_open c.now-now.result c.args.self.now.slots 0 c.args.self.now.slots) _ _ started come_none;
      ran = quiet_call g.P.PartialEq.eq g.S.Source g.S.Sink c.args.self.now.most_open first first _ _ _ (ran_none g.P.PartialEq.eq g.S.Source g.S.Sink c.args.self.now.most_open first _, refl) (clock_agrees first _ _ (time_shown c.now-now.result _ _ started));
      left = omega arith;
      listens = tallies_weaker (ShowsTime c.now-now.result) (λ t u. u.is_listening ≡ t.is_listening) _ _ started (λ t u p. ap (λ x. x.is_listening) p.1);
      accepting = refl;
      first = λ _. refl;
      fewer = omega arith;
      most_open = refl;
      event_count = refl;
    }

pub returns-in-Ok-NoneWaiting-clause-ran : goal.returns-in-Ok-NoneWaiting-clause-ran
returns-in-Ok-NoneWaiting-clause-ran g c =
    let at = server_at c.loop.self Accepting in
    quiet_call g.P.PartialEq.eq g.S.Source g.S.Sink c.args.self.now.most_open (server_at c.args.self.now Accepting) at _ _ _ c.loop.invariant.ran
    (no_arrival at c.vacant_key.result (Ok NoneWaiting) _ _ refl refl refl (accept_reported _ _ _ _ _ c.in-Ok-NoneWaiting.field-0-is c.in-Ok-NoneWaiting.ensures))

pub returns-in-Err-clause-ran : goal.returns-in-Err-clause-ran
returns-in-Err-clause-ran g c =
    let at = server_at c.loop.self Accepting in
    quiet_call g.P.PartialEq.eq g.S.Source g.S.Sink c.args.self.now.most_open (server_at c.args.self.now Accepting) at _ _ _ c.loop.invariant.ran (no_arrival at c.vacant_key.result (Err c.in-Err.fault) _ _ refl refl refl c.in-Err.ensures)
