use Rattle.std.proofs.Common.{◌≡◌, ◌+◌, List, [], ◌∷◌, ◌++◌, take, refl, sym, ap, ◌∙◌, subst, subst₂, arith}
use Rattle.toll_wire.proofs.Common.{Event, Answer, AreServed, IsEventServed, IsRun, take_more, take_all, run_more}
use Rattle.toll_wire.proofs.OwnRuns.{IsAnsweredIfRequest, requests_answered, requests_run}
use Rattle.toll_wire.proofs.Serving.{events_honest, events_open, events_run, events_steps}
use Rattle.toll_wire.proofs.run.run_events.Goals as goal

pub loop-event-init : goal.loop-event-init
loop-event-init g c =
    let K = g.K.Keep in
    let keep = c.args.keep.now in
    let none : c.in_ok-answers.answers.items ≡ [] = c.in_ok-answers.ensures.items in
    record {
      count = omega (arith, c.in_ok-answers.ensures.len);
      room = omega (arith, c.in_ok-answers.ensures.capacity);
      served = subst (λ answers. AreServed K.meaning keep [] answers keep) (sym none) refl;
      requests = λ os. subst (λ answers. IsRun (IsAnsweredIfRequest os K.meaning K.part) keep [] answers keep) (sym none) refl;
    }

pub loop-event-preserved : goal.loop-event-preserved
loop-event-preserved g c =
    let K = g.K.Keep in
    let event = c.event-item.result in
    let reported = c.answer_event-answer in
    let before : List Event = take c.loop-event.event-index c.args.events.now in
    let events_are : before ++ event ∷ [] ≡ take (c.loop-event.event-index + 1) c.args.events.now =
    ap (λ e. before ++ e ∷ []) c.event-item.is ∙ sym {A = List Event} (take_more c.args.events.now c.loop-event.event-index event c.loop-event-test.true) in
    let answers_are : c.loop-event.answers.items ++ reported.result ∷ [] ≡ c.push_reserved.new.self.items = sym {A = List Answer} c.push_reserved.ensures.items in
    record {
      count = omega arith;
      room = omega arith;
      served = subst₂ (λ (events : List Event) (answers : List Answer). AreServed K.meaning c.args.keep.now events answers reported.new.keep) events_are answers_are
          (run_more (IsEventServed K.meaning) c.args.keep.now c.loop-event.keep reported.new.keep before c.loop-event.answers.items event reported.result c.loop-event.invariant.served reported.ensures.served);
      requests = λ os.
          let each = IsAnsweredIfRequest os K.meaning K.part in
          subst₂ (λ (events : List Event) (answers : List Answer). IsRun each c.args.keep.now events answers reported.new.keep) events_are answers_are
          (run_more each c.args.keep.now c.loop-event.keep reported.new.keep before c.loop-event.answers.items event reported.result (c.loop-event.invariant.requests os) (reported.ensures.alone os));
    }

pub returns-clause-honest : goal.returns-clause-honest
returns-clause-honest g c now =
    events_honest g.K.Keep.meaning c.args.keep.now c.loop-event.keep (take c.loop-event.event-index c.args.events.now) c.loop-event.answers.items c.loop-event.invariant.served now

pub returns-clause-steps : goal.returns-clause-steps
returns-clause-steps g c now content H held stands lawful =
    let K = g.K.Keep in
    let all = take_all c.loop-event.event-index c.args.events.now c.loop-event-test.false in
    let served = subst (λ events. AreServed K.meaning c.args.keep.now events c.loop-event.answers.items c.loop-event.keep) all c.loop-event.invariant.served in
    events_steps K.meaning g.met.K.Keep.settled c.args.keep.now c.loop-event.keep c.args.events.now c.loop-event.answers.items served now content H held stands lawful

pub returns-clause-run : goal.returns-clause-run
returns-clause-run g c now content H held stands lawful =
    let K = g.K.Keep in
    let all = take_all c.loop-event.event-index c.args.events.now c.loop-event-test.false in
    let served = subst (λ events. AreServed K.meaning c.args.keep.now events c.loop-event.answers.items c.loop-event.keep) all c.loop-event.invariant.served in
    events_run K.meaning g.met.K.Keep.settled c.args.keep.now c.loop-event.keep c.args.events.now c.loop-event.answers.items served now content H held stands lawful

pub returns-clause-open : goal.returns-clause-open
returns-clause-open g c never_closes now content H held stands lawful =
    events_open g.K.Keep.meaning g.met.K.Keep.settled never_closes c.args.keep.now c.loop-event.keep (take c.loop-event.event-index c.args.events.now) c.loop-event.answers.items c.loop-event.invariant.served
    now content H held stands lawful

pub returns-clause-alone : goal.returns-clause-alone
returns-clause-alone g c os all_requests now content H held stands lawful =
    let K = g.K.Keep in
    let old = c.args.keep.now in
    let new = c.loop-event.keep in
    let events = c.args.events.now in
    let answers = c.loop-event.answers.items in
    let all = take_all c.loop-event.event-index events c.loop-event-test.false in
    let answered = subst (λ events. IsRun (IsAnsweredIfRequest os K.meaning K.part) old events answers new) all (c.loop-event.invariant.requests os) in
    requests_run os K.meaning K.part (g.met.K.Keep.settled_for os) old new events answers (requests_answered os K.meaning K.part old new events answers all_requests answered) now content H held stands lawful
