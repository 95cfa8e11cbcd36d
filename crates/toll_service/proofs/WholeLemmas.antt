-- All turns of one request.
use Rattle.std.proofs.Common.{◌≡◌, ℕ, Bool, true, false, cond, List, [], ◌∷◌, ◌++◌, Option, Some, drop, Ok, refl, sym, ap, subst, ◌∙◌, append_assoc, take-append-drop, inl, inr, arith}
use Rattle.std.specs.Prelude.{◌==◌, ◌≢◌, take}
use Rattle.toll_service.proofs.Common.{Vec, list_any, append-nil, Bytes, AreOwn, Input, IsOwnInput, Request, Task, Tasks, after_turn, Listener, Owners, Plant, Poll, Ready, Pending, AreNumberedFrom, commands_in, outcomes_in, is_fault_outcome, ImportState, GROUP_RECORDS, Outcome, ImportLine, Answer, Event}
use Rattle.std.proofs.lemmas.Bool.Decides.{nat_tests}
use Rattle.toll_base.proofs.Texts.{nat_eq-exact}
use Rattle.toll_server.specs.ConnectionStates.{pending_task}
use Rattle.toll_plant.proofs.FaultEnds.{up_to_longer, up_to_then}
use Rattle.toll_service.proofs.ImportRuns.{events_then}
use Rattle.toll_service.specs.Listeners.{BeginsImport, IsReportResponse}
use Rattle.toll_service.specs.Events.{AreActedEvents, AreEventsOf, AreGroupEvents, AreRecordEvents, AreServedTurns, AreTurnEvents, IsPrintoutOf, ServedTurn, answers_of, events_of, turns_of}
use Rattle.toll_service.specs.Whole.{AreAllOfRequest, first_response, own_parts, response_or, until_response}
use Rattle.toll_plant.specs.Imports.{Commands}

eq_self : (n : ℕ) → (n == n) ≡ true
eq_self n = grind (arith, nat_tests)

-- ---- one group

-- If no record is left after a group, its events are those of all records that were left.
all_left : (b : Bool) (reported : List Outcome) (left : Commands) (events : List Event) (answers : List Answer) → list_any is_fault_outcome reported ≡ b
    → AreActedEvents (take GROUP_RECORDS left) reported events answers → cond b [] (drop GROUP_RECORDS left) ≡ [] → AreActedEvents left reported events answers
all_left true reported left events answers faulty are none =
    subst (λ commands. AreActedEvents commands reported events answers) (take-append-drop GROUP_RECORDS left)
    (up_to_longer (λ acted. AreRecordEvents acted reported events answers) (take GROUP_RECORDS left) (drop GROUP_RECORDS left) reported faulty are)
all_left false reported left events answers calm are none =
    let whole : take GROUP_RECORDS left ≡ left =
    sym (append-nil (take GROUP_RECORDS left)) ∙ ap (λ more. take GROUP_RECORDS left ++ more) (sym none) ∙ take-append-drop GROUP_RECORDS left in
    subst (λ commands. AreActedEvents commands reported events answers) whole are

-- Otherwise the events of the records that are left follow.
more_left : (b : Bool) (reported more : List Outcome) (left behind : Commands) (events later : List Event) (answers others : List Answer) → list_any is_fault_outcome reported ≡ b
    → AreActedEvents (take GROUP_RECORDS left) reported events answers → behind ≢ [] → behind ≡ cond b [] (drop GROUP_RECORDS left) → AreActedEvents behind more later others
    → AreActedEvents left (reported ++ more) (events ++ later) (answers ++ others)
more_left true reported more left behind events later answers others faulty are some is then = absurd (some is)
more_left false reported more left behind events later answers others calm are some is then =
    subst (λ commands. AreActedEvents commands (reported ++ more) (events ++ later) (answers ++ others)) (ap (λ rest. take GROUP_RECORDS left ++ rest) is ∙ take-append-drop GROUP_RECORDS left)
    (up_to_then (λ acted. AreRecordEvents acted reported events answers) (λ acted. AreRecordEvents acted more later others) (λ acted. AreRecordEvents acted (reported ++ more) (events ++ later) (answers ++ others))
    (take GROUP_RECORDS left) behind reported more calm (λ acted next. events_then acted next reported more events later answers others) are then)

-- ---- an import that is left

-- The records that are left are these events, and the last response is this text.
record Ends (was : ImportState) (text : Bytes) (events : List Event) (answers : List Answer) : Type 0 where
  lines : List ImportLine
  reported : List Outcome
  are : AreActedEvents was.left reported events answers
  said : outcomes_in lines ≡ outcomes_in was.lines ++ reported
  keep_usable : Bool
  telling : IsReportResponse lines text keep_usable

-- the import's last turn
last_turn : (was : ImportState) (reported : Vec ℕ) (events : List Event) (answers : List Answer) → AreGroupEvents was (Ready reported) events answers → Ends was reported.items (events ++ []) (answers ++ [])
last_turn was reported events answers g =
    subst (λ es. Ends was reported.items es (answers ++ [])) (sym (append-nil events))
    (subst (λ replies. Ends was reported.items events replies) (sym (append-nil answers)) (record {
      lines = g.now.lines;
      reported = g.reported;
      are = all_left (list_any is_fault_outcome g.reported) g.reported was.left events answers refl g.are (sym g.left ∙ g.comes.0);
      said = g.said;
      keep_usable = g.keep_usable;
      telling = g.comes.1;
    }))

-- one more turn, before the others
next_turn : (was next : ImportState) (text : Bytes) (events later : List Event) (answers others : List Answer) → AreGroupEvents was (Pending next) events answers → Ends next text later others
    → Ends was text (events ++ later) (answers ++ others)
next_turn was next text events later answers others g rest =
    let same : next ≡ g.now = g.comes.1 in
    record {
      lines = rest.lines;
      reported = g.reported ++ rest.reported;
      are = more_left (list_any is_fault_outcome g.reported) g.reported rest.reported was.left g.now.left events later answers others refl g.are g.comes.0 g.left
          (subst (λ import. AreActedEvents import.left rest.reported later others) same rest.are);
      said = rest.said ∙ ap (λ import. outcomes_in import.lines ++ rest.reported) same ∙ ap (λ before. before ++ rest.reported) g.said ∙ append_assoc (outcomes_in was.lines) g.reported rest.reported;
      keep_usable = rest.keep_usable;
      telling = rest.telling;
    }

-- The outcome of a turn for a client that has an import left.
one_turn : (was : ImportState) (input : Input ImportState) (poll : Poll ImportState) (text : Bytes) (p : ServedTurn) (own : List ServedTurn) (later : Option Bytes) → IsOwnInput (Some was) input
    → AreTurnEvents input poll p.events p.answers → response_or poll later ≡ Some text
    → ((next : ImportState) → pending_task poll ≡ Some next → later ≡ Some text → Ends next text (events_of own) (answers_of own))
    → Ends was text (events_of (p ∷ until_response poll own)) (answers_of (p ∷ until_response poll own))
one_turn was (Request listener requested) poll text p own later none turn reported rest = absurd (cc none)
one_turn was (Task import) (Ready bytes) text p own later is turn reported rest =
    let same : import ≡ was = cc is in
    let text_is : bytes.items ≡ text = cc reported in
    subst (λ t. Ends was t (p.events ++ []) (p.answers ++ [])) text_is (last_turn was bytes p.events p.answers (subst (λ i. AreGroupEvents i (Ready bytes) p.events p.answers) same turn))
one_turn was (Task import) (Pending next) text p own later is turn reported rest =
    let same : import ≡ was = cc is in
    next_turn was next text p.events (events_of own) p.answers (answers_of own) (subst (λ i. AreGroupEvents i (Pending next) p.events p.answers) same turn) (rest next refl reported)

module _ (whose : ℕ) (text : Bytes) where
  -- The parts from one on, which is the client's own or another's.
  from_part : (b : Bool) (tasks : Tasks ImportState) (was : ImportState) (p : ServedTurn) (parts : List ServedTurn) → (whose == p.turn.whose) ≡ b → tasks whose ≡ Some was
      → IsOwnInput (tasks p.turn.whose) p.turn.input → AreTurnEvents p.turn.input p.turn.poll p.events p.answers
      → cond b (response_or p.turn.poll (first_response whose parts)) (first_response whose parts) ≡ Some text
      → ((next : ImportState) → after_turn tasks p.turn whose ≡ Some next → first_response whose parts ≡ Some text → Ends next text (events_of (own_parts whose parts)) (answers_of (own_parts whose parts)))
      → Ends was text (events_of (cond b (p ∷ until_response p.turn.poll (own_parts whose parts)) (own_parts whose parts))) (answers_of (cond b (p ∷ until_response p.turn.poll (own_parts whose parts)) (own_parts whose parts)))
  from_part true tasks was p parts is left own turn reported rest =
      let same : whose ≡ p.turn.whose = nat_eq-exact whose p.turn.whose is in
      let its : tasks p.turn.whose ≡ Some was = ap tasks (sym same) ∙ left in
      one_turn was p.turn.input p.turn.poll text p (own_parts whose parts) (first_response whose parts) (subst (λ task. IsOwnInput task p.turn.input) its own) turn reported
      (λ next is_left. rest next (ap (λ b. cond b (pending_task p.turn.poll) (tasks whose)) is ∙ is_left))
  from_part false tasks was p parts is left own turn reported rest = rest was (ap (λ b. cond b (pending_task p.turn.poll) (tasks whose)) is ∙ left) reported

  from_left : (tasks : Tasks ImportState) (was : ImportState) (parts : List ServedTurn) → AreServedTurns parts → AreOwn tasks (turns_of parts) → tasks whose ≡ Some was → first_response whose parts ≡ Some text
      → Ends was text (events_of (own_parts whose parts)) (answers_of (own_parts whose parts))
  from_left tasks was [] are own left reported = absurd (cc reported)
  from_left tasks was (p ∷ parts) are own left reported =
      from_part (whose == p.turn.whose) tasks was p parts refl left own.0 are.0 reported (λ next is_left more. from_left (after_turn tasks p.turn) next parts are.1 own.1 is_left more)

-- ---- a request

-- An import that was asked for, with its last response.
whole_import : (requested text : Bytes) (import : ImportState) (events : List Event) (answers : List Answer) → BeginsImport requested import → Ends import text events answers → AreEventsOf Plant requested text events answers
whole_import requested text import events answers begins ends =
    let report = ends.telling in
    let none : outcomes_in import.lines ≡ [] = ap outcomes_in begins.begun.none in
    let reported : ends.reported ≡ outcomes_in report.report.lines.items = ap (λ before. before ++ ends.reported) (sym none) ∙ sym ends.said ∙ ap outcomes_in (sym report.its) in
    inl (record {
      words = begins.words;
      file = begins.sent;
      asks = begins.asks;
      printout = report.printout;
      printed = subst (λ wanted. IsPrintoutOf wanted events answers report.printout) (sym begins.wants) (
        Ok report.report,
        (
          begins.begun.records,
          begins.begun.read,
          subst (AreNumberedFrom 1) (sym report.its) report.numbered,
          subst (λ outcomes. AreActedEvents (commands_in begins.begun.records) outcomes events answers) reported
              (subst (λ commands. AreActedEvents commands ends.reported events answers) begins.begun.left ends.are),
        ),
        report.printed,
      );
      tells = elim report.telling [ inl whole ↦ inl whole.0 | inr left ↦ inr left.0 ];
    })

module _ (whose : ℕ) (requested text : Bytes) where
  first_turn : (listener : Listener) (poll : Poll ImportState) (p : ServedTurn) (own : List ServedTurn) (later : Option Bytes) → AreTurnEvents (Request listener requested) poll p.events p.answers → response_or poll later ≡ Some text
      → ((import : ImportState) → pending_task poll ≡ Some import → later ≡ Some text → Ends import text (events_of own) (answers_of own))
      → AreEventsOf listener requested text (events_of (p ∷ until_response poll own)) (answers_of (p ∷ until_response poll own))
  first_turn listener (Ready bytes) p own later turn reported rest =
      let text_is : bytes.items ≡ text = cc reported in
      subst (λ es. AreEventsOf listener requested text es (p.answers ++ [])) (sym (append-nil p.events))
      (subst (λ replies. AreEventsOf listener requested text p.events replies) (sym (append-nil p.answers)) (subst (λ t. AreEventsOf listener requested t p.events p.answers) text_is turn))
  first_turn Owners (Pending import) p own later turn reported rest = absurd turn
  first_turn Plant (Pending import) p own later (begins, no_events, no_answers) reported rest =
      subst (λ es. AreEventsOf Plant requested text (es ++ events_of own) (p.answers ++ answers_of own)) (sym no_events)
      (subst (λ replies. AreEventsOf Plant requested text (events_of own) (replies ++ answers_of own)) (sym no_answers)
      (whole_import requested text import (events_of own) (answers_of own) begins (rest import refl reported)))

  whole_begun : (b : Bool) (tasks : Tasks ImportState) (listener : Listener) (p : ServedTurn) (parts : List ServedTurn) → (whose == p.turn.whose) ≡ b → b ≡ true → p.turn.input ≡ Request listener requested
      → AreTurnEvents p.turn.input p.turn.poll p.events p.answers → cond b (response_or p.turn.poll (first_response whose parts)) (first_response whose parts) ≡ Some text → AreServedTurns parts
      → AreOwn (after_turn tasks p.turn) (turns_of parts)
      → AreEventsOf listener requested text (events_of (cond b (p ∷ until_response p.turn.poll (own_parts whose parts)) (own_parts whose parts))) (answers_of (cond b (p ∷ until_response p.turn.poll (own_parts whose parts)) (own_parts whose parts)))
  whole_begun false tasks listener p parts is its input turn reported are own = absurd (cc its)
  whole_begun true tasks listener p parts is its input turn reported are own =
      first_turn listener p.turn.poll p (own_parts whose parts) (first_response whose parts) (subst (λ h. AreTurnEvents h p.turn.poll p.events p.answers) input turn) reported
      (λ import is_left more. from_left whose text (after_turn tasks p.turn) import parts are own (ap (λ b. cond b (pending_task p.turn.poll) (tasks whose)) is ∙ is_left) more)

pub parts_are_all_of_request : (tasks : Tasks ImportState) (parts : List ServedTurn) → AreAllOfRequest tasks parts
parts_are_all_of_request tasks [] whose listener requested reported are own first is_told = absurd first
parts_are_all_of_request tasks (p ∷ parts) whose listener requested reported are own (same, input) is_told =
    whole_begun whose requested reported (whose == p.turn.whose) tasks listener p parts refl (ap (λ n. whose == n) same ∙ eq_self whose) input are.0 is_told are.1 own.1
