-- The inputs at the listeners are a run of events.
use Rattle.std.proofs.Common.{◌≡◌, Bool, List, [], ◌∷◌, ◌++◌, drop, Err, refl, sym, subst, ap, ◌∙◌, inl, inr}
use Rattle.std.specs.Prelude.{take}
use Rattle.toll_service.proofs.Common.{append-nil, Bytes, Content, Meaning, Yields as TurnComesTo, Input, IsWholeRun, Request, Task, Turn, Listener, Owners, Plant, Poll, Ready, Pending, outcomes_in, HasActed, ImportState, GROUP_RECORDS, Printout, AreServed, IsAnswered, Answer, Event}
use Rattle.toll_desk.specs.Reads.{Over}
use Rattle.toll_plant.proofs.FaultEnds.{all_acted}
use Rattle.toll_service.proofs.ImportRuns.{records_run}
use Rattle.toll_service.specs.Listeners.{ImportResumed, ImportYields, IsRequestedDone, IsServedIfRoom}
use Rattle.toll_service.specs.Events.{AreActedEvents, AreAllEventsOf, AreEventsOf, AreGroupEvents, AreRecordEvents, AreTurnEvents, IsPrintoutOf}
use Rattle.toll_service.specs.Serving.{AnswersOver, HasServed, IsRunAs, IsRunWhereAnswered, ResumesOver, RunsOver}
use Rattle.toll_service.specs.Requested.{Requested, RunCommand, ImportFile, UnknownWords, requested_by_call}
use Rattle.toll_history.proofs.RunLemmas.{run_then}
use Rattle.toll_wire.specs.OfficeRuns.{IsStep}
use Rattle.toll_wire.proofs.Private.{run_of}
use Rattle.toll_wire.proofs.Serving.{events_honest, events_run}
use Rattle.toll_wire.specs.declared.event.Answer.TheVariants.{Bytes as Reply, Plant as CommandReply}
use Rattle.toll_wire.specs.declared.event.Event.TheVariants.{Owner, Plant as Command}

module _ {K : Type 0} (meaning : Meaning K) (settled : (k : K) (c : Content) → meaning.is_honest k → meaning.is_store_open k → meaning.holds k c → meaning.leaves k (c ∷ [])) where
  -- A keep that is honest now was honest before. From each lawful history there is a run whose events and answers Are holds of.
  record Ran (old new : K) (Are : List Event → List Answer → Type 0) : Type 0 where
    honest : meaning.is_honest new → meaning.is_honest old
    run : Over meaning old new (λ c H. IsRunAs (meaning.holds new) H Are)

  -- Nothing happened.
  event_nothing : (old new : K) (Are : List Event → List Answer → Type 0) → new ≡ old → Are [] [] → Ran old new Are
  event_nothing old new Are same are = record {
    honest = subst meaning.is_honest same;
    run = λ now c H held stands lawful.
        let still = subst (λ k. meaning.holds k c) (sym same) held in
        record { events = []; answers = []; are = are; run = run_of (meaning.holds new) H H [] [] refl lawful (record { content = c; held = still; stands = stands }) };
  }

  -- A run serves any weaker relation of events and answers.
  so_are : (old new : K) (Are So : List Event → List Answer → Type 0) → ((events : List Event) (answers : List Answer) → Are events answers → So events answers) → Ran old new Are → Ran old new So
  so_are old new Are So so ran = record {
    honest = ran.honest;
    run = λ now c H held stands lawful.
        let r = ran.run now c H held stands lawful in record { events = r.events; answers = r.answers; are = so r.events r.answers r.are; run = r.run };
  }

  -- One event was served.
  one_ran : (old new : K) (e : Event) (a : Answer) (Are : List Event → List Answer → Type 0) → AreServed meaning old (e ∷ []) (a ∷ []) new → Are (e ∷ []) (a ∷ []) → Ran old new Are
  one_ran old new e a Are served are = record {
    honest = events_honest meaning old new (e ∷ []) (a ∷ []) served;
    run = λ now c H held stands lawful.
        record { events = e ∷ []; answers = a ∷ []; are = are; run = events_run meaning settled old new (e ∷ []) (a ∷ []) served now c H held stands lawful };
  }

  -- ---- a request

  done_ran : (old new : K) (wanted : Requested) (p : Printout) → IsRequestedDone meaning old new wanted p → Ran old new (λ events answers. IsPrintoutOf wanted events answers p)
  done_ran old new (RunCommand command) p (reply, served, reported) =
      one_ran old new (Command command) (CommandReply reply) (λ events answers. IsPrintoutOf (RunCommand command) events answers p) (new, served, refl) (refl, reported)
  done_ran old new (ImportFile file) p (same, (fault, why, reported)) =
      event_nothing old new (λ events answers. IsPrintoutOf (ImportFile file) events answers p) same (Err fault, (refl, refl), reported)
  done_ran old new (UnknownWords words) p (same, usage) = event_nothing old new (λ events answers. IsPrintoutOf (UnknownWords words) events answers p) same usage

  asked_ran : (old new : K) (listener : Listener) (requested : Bytes) (poll : Poll ImportState) → IsServedIfRoom meaning old new listener requested poll → Ran old new (AreTurnEvents (Request listener requested) poll)
  asked_ran old new Owners requested (Ready reported) (inl (keep_usable, s)) =
      one_ran old new (Owner s.request) (Reply s.out) (AreEventsOf Owners requested reported.items) (new, subst (λ bytes. IsAnswered meaning old new bytes s.out) (sym s.same) s.answered, refl) (s.same, s.tells)
  asked_ran old new Owners requested (Ready reported) (inr (same, none)) = event_nothing old new (AreEventsOf Owners requested reported.items) same none
  asked_ran old new Owners requested (Pending import) (inl (keep_usable, never)) = absurd never
  asked_ran old new Owners requested (Pending import) (inr (same, never)) = absurd never
  asked_ran old new Plant requested (Ready reported) (inl (keep_usable, inl s)) =
      so_are old new (λ events answers. IsPrintoutOf (requested_by_call s.words s.file) events answers s.printout) (AreEventsOf Plant requested reported.items)
      (λ events answers printed. inl (record {
        words = s.words;
        file = s.file;
        asks = s.asks;
        printout = s.printout;
        printed = printed;
        tells = elim s.telling [ inl whole ↦ inl whole.0 | inr left ↦ inr left.0 ];
      }))
      (done_ran old new (requested_by_call s.words s.file) s.printout s.done)
  asked_ran old new Plant requested (Ready reported) (inl (keep_usable, inr (asks, same, none, on))) = event_nothing old new (AreEventsOf Plant requested reported.items) same (inr (none, refl, refl))
  asked_ran old new Plant requested (Ready reported) (inr (same, none)) = event_nothing old new (AreEventsOf Plant requested reported.items) same (inr (none, refl, refl))
  asked_ran old new Plant requested (Pending import) (inl (keep_usable, (begins, same, on))) = event_nothing old new (AreTurnEvents (Request Plant requested) (Pending import)) same (begins, refl, refl)
  asked_ran old new Plant requested (Pending import) (inr (same, never)) = absurd never

  -- ---- an import that goes on

  acted_ran : (old new : K) (was now : ImportState) (poll : Poll ImportState) (keep_usable : Bool) → ImportYields now poll keep_usable → HasActed meaning old new was now → Ran old new (AreGroupEvents was poll)
  acted_ran old new was now poll keep_usable comes acted = record {
    honest = acted.served.store.honest;
    run = λ honest c H held stands lawful.
        let (d, G, step) = acted.served.over honest c H held stands lawful in
        let imported = step.step in
        let r = records_run H G imported.acted acted.reported imported.so in
        record {
          events = r.events;
          answers = r.answers;
          are = record {
            now = now;
            reported = acted.reported;
            are = record { acted = imported.acted; rest = imported.rest; all = imported.all; so = r.are; stops = imported.stops; whole = imported.whole };
            said = acted.said;
            left = acted.left;
            keep_usable = keep_usable;
            comes = comes;
          };
          run = run_of (meaning.holds new) H G r.events r.answers r.run step.lawful (record { content = d; held = step.held; stands = step.stands });
        };
  }

  none_left : (was : ImportState) (poll : Poll ImportState) (keep_usable : Bool) → was.left ≡ [] → ImportYields was poll keep_usable → AreGroupEvents was poll [] []
  none_left was poll keep_usable none comes = record {
    now = was;
    reported = [];
    are = subst (λ left. AreActedEvents (take GROUP_RECORDS left) [] [] []) (sym none) (all_acted (λ acted. AreRecordEvents acted [] [] []) [] [] tt refl);
    said = sym (append-nil (outcomes_in was.lines));
    left = subst (λ left. left ≡ drop GROUP_RECORDS left) (sym none) refl;
    keep_usable = keep_usable;
    comes = comes;
  }

  went_ran : (old new : K) (was : ImportState) (poll : Poll ImportState) (keep_usable : Bool) → ImportResumed meaning old new was poll keep_usable → Ran old new (AreGroupEvents was poll)
  went_ran old new was poll keep_usable w = elim w.resumed [
    | inl acted ↦ acted_ran old new was w.now poll keep_usable w.comes acted
    | inr over ↦ event_nothing old new (AreGroupEvents was poll) over.1 (none_left was poll keep_usable over.0 (subst (λ now. ImportYields now poll keep_usable) over.2 w.comes))
  ]

  -- ---- all turns

  turn_ran : {O : Type 0} (keep : O → K) (old new : O) (input : Input ImportState) (poll : Poll ImportState)
      → TurnComesTo (AnswersOver meaning keep) (ResumesOver meaning keep) old input poll new → Ran (keep old) (keep new) (AreTurnEvents input poll)
  turn_ran keep old new (Request listener requested) poll one = asked_ran (keep old) (keep new) listener requested poll one
  turn_ran keep old new (Task import) poll (keep_usable, resumed) = went_ran (keep old) (keep new) import poll keep_usable resumed

  one_part : (turn : Turn ImportState) (turns : List (Turn ImportState)) (events later : List Event) (answers behind : List Answer) → AreTurnEvents turn.input turn.poll events answers
      → AreAllEventsOf turns later behind → AreAllEventsOf (turn ∷ turns) (events ++ later) (answers ++ behind)
  one_part turn turns events later answers behind one all = record {
    parts = record { turn = turn; events = events; answers = answers } ∷ all.parts;
    are = (one, all.are);
    turns_are = ap (λ others. turn ∷ others) all.turns_are;
    events_are = ap (λ others. events ++ others) all.events_are;
    answers_are = ap (λ others. answers ++ others) all.answers_are;
  }

  turns_ran : {O : Type 0} (keep : O → K) (old new : O) (turns : List (Turn ImportState)) → RunsOver meaning keep old turns new → Ran (keep old) (keep new) (AreAllEventsOf turns)
  turns_ran keep old new [] same = event_nothing (keep old) (keep new) (AreAllEventsOf []) (ap keep same) (record { parts = []; are = tt; turns_are = refl; events_are = refl; answers_are = refl })
  turns_ran keep old new (turn ∷ turns) (middle, one, rest) =
      let first = turn_ran keep old middle turn.input turn.poll one in
      let others = turns_ran keep middle new turns rest in
      record {
        honest = λ now. first.honest (others.honest now);
        run = λ now c H held stands lawful.
            let f = first.run (others.honest now) c H held stands lawful in
            let o = others.run now f.run.left.content f.run.last f.run.left.held f.run.left.stands f.run.lawful in
            record {
              events = f.events ++ o.events;
              answers = f.answers ++ o.answers;
              are = one_part turn turns f.events o.events f.answers o.answers f.are o.are;
              run = run_of (meaning.holds (keep new)) H o.run.last (f.events ++ o.events) (f.answers ++ o.answers)
                  (run_then IsStep H f.run.last o.run.last f.events o.events f.answers o.answers f.run.run o.run.run) o.run.lawful o.run.left;
            };
      }

  -- An office that has a keep answers as the keep does.
  turn_over : {O : Type 0} (keep : O → K) (old new : O) (input : Input ImportState) (poll : Poll ImportState) → TurnComesTo (AnswersOver meaning keep) (ResumesOver meaning keep) old input poll new
      → TurnComesTo (AnswersOver meaning (λ k. k)) (ResumesOver meaning (λ k. k)) (keep old) input poll (keep new)
  turn_over keep old new (Request listener requested) poll one = one
  turn_over keep old new (Task import) poll one = one

  runs_over : {O : Type 0} (keep : O → K) (old new : O) (turns : List (Turn ImportState)) → RunsOver meaning keep old turns new → RunsOver meaning (λ k. k) (keep old) turns (keep new)
  runs_over keep old new [] same = ap keep same
  runs_over keep old new (turn ∷ turns) (middle, one, rest) = (keep middle, turn_over keep old middle turn.input turn.poll one, runs_over keep middle new turns rest)

  pub were_served : {O : Type 0} (keep : O → K) (old new : O) (turns : List (Turn ImportState)) → IsRunWhereAnswered meaning keep old new turns
  were_served keep old new turns runs = (turns_ran keep old new turns runs).run

  pub has_served : {O : Type 0} (keep : O → K) (old new : O) (IsOver : Type 0) → IsWholeRun (AnswersOver meaning keep) (ResumesOver meaning keep) old new IsOver → HasServed meaning (keep old) (keep new) IsOver
  has_served keep old new IsOver (left, run, over) = record {
    turns = run.turns;
    runs = runs_over keep old new run.turns run.runs;
    own = run.own;
    over = λ is whose. run.rest whose ∙ over is whose;
    were = were_served keep old new run.turns run.runs;
  }
