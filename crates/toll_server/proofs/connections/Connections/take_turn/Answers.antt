use Rattle.std.proofs.Common.{Option, None, Some, refl, ◌≡◌, ◌∙◌, ap, arith, inl, inr, subst, sym, option_and_then, option_map}
use Rattle.toll_server.proofs.Common.{get, connection_behind, stays_after, reply_in_state, Connection, IsWhatWaits, Writes, deadline_after, task_of, waiting_of}
use Rattle.toll_server.proofs.ConnectionLemmas.{comes_to, handed_by, what_waits}
use Rattle.toll_server.proofs.TurnTimes.{no_reply, same_times, times_kept}
use Rattle.toll_server.proofs.connections.Connections.take_turn.Goals as goal

pub returns-in_default-clause-turn : goal.returns-in_default-clause-turn
returns-in_default-clause-turn g c =
    (None, record { stage = (refl, refl); owners = omega arith; event_count = omega arith; slots = (c.in_default.ensures.none, refl) }, refl)

pub returns-clause-turn : goal.returns-clause-turn
returns-clause-turn g c =
    let out = c.in-Some-try_remove.ensures in
    let back = c.keep.ensures.kept in
    let at = c.put_behind.ensures.vacant ∙ out.key_is_next in
    let connection = c.in-Some-try_remove.connection in
    let ticket = c.in-Some-take_turn.outcome.ticket in
    let later = c.store_poll-step.new.self in
    let step = c.store_poll-step.result in
    let handed = handed_by connection.state connection.request in (
      Some (record { whose = c.in-Some.next.key; input = handed; poll = c.in-Some-take_turn.outcome.poll }),
      record {
        stage = (refl, refl);
        owners = omega (arith, c.keep.ensures.owners_left);
        event_count = c.keep.ensures.event_count;
        slots = record {
          next = c.in-Some.ensures.found;
          input = subst (λ (o : Option (Connection _ _ _)). IsWhatWaits (option_and_then waiting_of o) (option_and_then (λ held. task_of held.state) o) handed) out.value
              (what_waits connection.state connection.request ticket c.in-Some-take_turn.ensures.ticket);
          connection = connection;
          ticket = ticket;
          later = later;
          step = step;
          there = sym out.value;
          queued = c.in-Some-take_turn.ensures.ticket;
          request = c.store_poll-step.ensures.request ∙ ap (λ p. p.request) c.in-Some-take_turn.ensures.taken;
          reported = c.store_poll-step.ensures.taken;
          place = c.store_poll-step.ensures.ticket;
          pending = c.store_poll-step.ensures.pending;
          writes = subst (λ connection. Writes g.S.Sink connection later step) c.in-Some-take_turn.ensures.taken c.store_poll-step.ensures.writes;
          stays = subst (λ k. get c.keep.new.self.slots k ≡ stays_after step later) at back.changed;
          others = λ other isnt. back.others other (λ same. isnt (same ∙ at))
              ∙ (c.put_behind.ensures.behind other ∙ ap (option_map (connection_behind g.P.PartialEq.eq ticket.party c.args.self.now.event_count)) (out.updates.others other isnt));
        };
      },
      (c.args.service.now, refl, comes_to g.O.Service.answers g.O.Service.resumes connection.state connection.request c.in-Some-take_turn.outcome.poll c.args.service.now c.take_turn.new.service c.in-Some-take_turn.ensures.asks),
    )

pub returns-in_default-clause-deadline : goal.returns-in_default-clause-deadline
returns-in_default-clause-deadline g c = (0, inl (c.in_default.ensures.none, refl), same_times 0 c.args.self.now.slots)

pub returns-clause-deadline : goal.returns-clause-deadline
returns-clause-deadline g c =
    let out = c.in-Some-try_remove.ensures in
    let back = c.keep.ensures.kept in
    let at = c.put_behind.ensures.vacant ∙ out.key_is_next in
    let connection = c.in-Some-try_remove.connection in
    let ticket = c.in-Some-take_turn.outcome.ticket in
    let party = c.in-Some-take_turn.outcome.ticket.party in
    let event_count = c.args.self.now.event_count in
    let later = c.store_poll-step.new.self in (
      c.now.result,
      inr c.now.ensures,
      times_kept c.now.result g.P.PartialEq.eq party event_count c.args.self.now.slots c.keep.new.self.slots c.in-Some.next.key connection later c.store_poll-step.result
          (sym out.value)
          (subst (λ k. get c.keep.new.self.slots k ≡ stays_after c.store_poll-step.result later) at back.changed)
          (λ other isnt. back.others other (λ same. isnt (same ∙ at))
          ∙ (c.put_behind.ensures.behind other ∙ ap (option_map (connection_behind g.P.PartialEq.eq party event_count)) (out.updates.others other isnt)))
          (c.store_poll-step.ensures.deadline
          ∙ (λ i. deadline_after (sym (no_reply connection.state ticket c.in-Some-take_turn.ensures.ticket) i) (reply_in_state later.state) (ap (λ p. p.deadline) c.in-Some-take_turn.ensures.taken i) c.now.result)),
    )
