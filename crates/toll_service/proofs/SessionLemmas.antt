-- The inputs while one office stayed open.
use Rattle.std.proofs.Common.{◌≡◌, ◌⊎◌, ◌∙◌, ◌≤◌, Bool, ap, List, [], ◌∷◌, Option, None, Some, Result, refl, sym, subst, inl, inr, arith}
use Rattle.std.specs.Prelude.{⊤}
use Rattle.toll_base.specs.Bytes.{Bytes}
use Rattle.toll_files.specs.declared.fault_log.ServingFault.{ServingFault}
use Rattle.toll_files.specs.declared.file_stamps.LeftFiles.{LeftFiles}
use Rattle.toll_files.specs.declared.office_fault.OfficeFault.{OfficeFault}
use Rattle.toll_keep.specs.Content.{Content}
use Rattle.toll_keep.specs.Meaning.{Meaning}
use Rattle.toll_service.specs.Openings.{Openings}
use Rattle.toll_service.specs.declared.office_session.OfficeSession.{OfficeSession}
use Rattle.toll_service.specs.Sessions.{AnswersBy, AreAsLeft, AreThoseTaken, IsAtHand, IsSessionIdle, IsLeftOpen, IsSessionRun, IsAnsweredAtHand, IsToldBy, IsTurnedAway, ResumesBy, SessionState, state_of_session}
use Rattle.toll_server.specs.Runs.{Input, Request, Task, Yields, TakesTurns, Turn}
use Rattle.toll_server.specs.declared.poll.Poll.{Poll}
use Rattle.toll_plant.specs.ImportStates.{ImportState}
use Rattle.toll_service.proofs.EventLemmas.{were_served}
use Rattle.toll_service.specs.Serving.{AnswersOver, ResumesOver, RunsOver}

module _ {K : Type 0} (meaning : Meaning K) (is_opened : K → Type 0) where
  -- The input was taken over an office, or turned away.
  abbrev IsReportedOver : SessionState K → Input ImportState → Poll ImportState → SessionState K → Type 0
  IsReportedOver old input poll new = IsAnsweredAtHand meaning is_opened ⊤ old input poll new ⊎ (IsSessionIdle old new × IsTurnedAway input poll)

  -- Each turn acts on the session that the turns before it left.
  abbrev TurnsLead : SessionState K → List (Turn ImportState) → SessionState K → Type 0
  TurnsLead old [] new = new ≡ old
  TurnsLead old (t ∷ turns) new = (middle : SessionState K) × IsReportedOver old t.input t.poll middle × TurnsLead middle turns new

  session_some_is : {x y : K} → Some x ≡ Some y → x ≡ y
  session_some_is h = (cc)

  no_office : {x : K} {k : Option K} → k ≡ None → k ≡ Some x → ⊥
  no_office none some = absurd (cc (none, some))

  more_or_same : (old middle : SessionState K) (first : K) → IsAtHand is_opened ⊤ old middle first → old.openings ≤ middle.openings
  more_or_same old middle first (inl (there, same, still)) = omega (arith, same)
  more_or_same old middle first (inr (opened, more)) = omega (arith, more)

  -- The number of openings never falls.
  session_counts : (old new : SessionState K) (turns : List (Turn ImportState)) → TurnsLead old turns new → old.openings ≤ new.openings
  session_counts old new [] same = let is : new.openings ≡ old.openings = ap (λ s. s.openings) same in omega (arith, is)
  session_counts old new (t ∷ turns) (middle, inl one, rest) =
      let behind = session_counts middle new turns rest in
      let before = more_or_same old middle one.first one.begins in omega (arith, behind, before)
  session_counts old new (t ∷ turns) (middle, inr (idle, turned), rest) =
      let behind = session_counts middle new turns rest in omega (arith, behind, idle.1)

  -- If no office is open and none is opened, none is used.
  not_begun : (old middle new : SessionState K) (first : K) → old.keep ≡ None → middle.openings ≤ new.openings → new.openings ≡ old.openings
      → IsAtHand is_opened ⊤ old middle first → ⊥
  not_begun old middle new first none behind count (inl (there, same, still)) = no_office none there
  not_begun old middle new first none behind count (inr (opened, more)) = omega (arith, behind, more, count)

  -- If none is opened, the office is the one that was open.
  same_office : (old middle new : SessionState K) (first begun : K) → old.keep ≡ Some first → middle.openings ≤ new.openings → new.openings ≡ old.openings
      → IsAtHand is_opened ⊤ old middle begun → (begun ≡ first) × (new.openings ≡ middle.openings)
  same_office old middle new first begun there behind count (inl (is, same, still)) = (session_some_is (sym is ∙ there), omega (arith, same, count))
  same_office old middle new first begun there behind count (inr (opened, more)) = absurd (omega (arith, behind, more, count))

  still_none : (old middle : SessionState K) → old.keep ≡ None → (middle.keep ≡ old.keep) ⊎ (middle.keep ≡ None) → middle.keep ≡ None
  still_none old middle none (inl same) = same ∙ none
  still_none old middle none (inr closed) = closed

  -- Then all inputs are turned away.
  all_turned : (old new : SessionState K) (turns : List (Turn ImportState)) → TurnsLead old turns new → old.keep ≡ None → new.openings ≡ old.openings
      → AreThoseTaken turns [] × (new.keep ≡ None)
  all_turned old new [] same none count = (refl, ap (λ s. s.keep) same ∙ none)
  all_turned old new (t ∷ turns) (middle, inl one, rest) none count =
      absurd (not_begun old middle new one.first none (session_counts middle new turns rest) count one.begins)
  all_turned old new (t ∷ turns) (middle, inr (idle, turned), rest) none count =
      let more = all_turned middle new turns rest (still_none old middle none idle.0) (omega (arith, count, idle.1)) in (inl (turned, more.0), more.1)

  -- the inputs that used the office, one after another
  record Sat (first : K) (turns : List (Turn ImportState)) (new : SessionState K) : Type 0 where
    last : K
    taken : List (Turn ImportState)
    those : AreThoseTaken turns taken
    runs : RunsOver meaning (λ keep. keep) first taken last
    left : IsLeftOpen last new

  sat : (old new : SessionState K) (turns : List (Turn ImportState)) (first : K) → TurnsLead old turns new → old.keep ≡ Some first → new.openings ≡ old.openings → Sat first turns new
  sat old new [] first same there count =
      record { last = first; taken = []; those = refl; runs = refl; left = inl (ap (λ s. s.keep) same ∙ there) }
  sat old new (t ∷ turns) first (middle, inl one, rest) there count =
      let behind = session_counts middle new turns rest in
      let same = same_office old middle new first one.first there behind count one.begins in
      let from = one.taken in
      let comes = subst (λ k. Yields (AnswersOver meaning (λ keep. keep)) (ResumesOver meaning (λ keep. keep)) k t.input t.poll from.last) same.0 from.comes in
      elim (from.ends) [
        | inl open_still ↦
            let more = sat middle new turns from.last rest open_still same.1 in
            record { last = more.last; taken = t ∷ more.taken; those = inr (more.taken, refl, more.those); runs = (from.last, comes, more.runs); left = more.left }
        | inr closed ↦
            let turned = all_turned middle new turns rest closed same.1 in
            record { last = from.last; taken = t ∷ []; those = inr ([], refl, turned.0); runs = (from.last, comes, refl); left = inr turned.1 }
      ]
  sat old new (t ∷ turns) first (middle, inr (idle, turned), rest) there count =
      let still : new.openings ≡ middle.openings = omega (arith, count, idle.1) in
      elim (idle.0) [
        | inl same ↦
            let more = sat middle new turns first rest (same ∙ there) still in
            record { last = more.last; taken = more.taken; those = inl (turned, more.those); runs = more.runs; left = more.left }
        | inr closed ↦
            let all = all_turned middle new turns rest closed still in
            record { last = first; taken = []; those = inl (turned, all.0); runs = refl; left = inr all.1 }
      ]

  -- The condition on an office that was open may be dropped.
  taken_over : (IsSo : Type 0) (old new : SessionState K) (input : Input ImportState) (poll : Poll ImportState)
      → IsAnsweredAtHand meaning is_opened IsSo old input poll new → IsAnsweredAtHand meaning is_opened ⊤ old input poll new
  taken_over IsSo old new input poll one = record {
    first = one.first;
    begins = elim (one.begins) [ inl (there, same, still) ↦ inl (there, same, tt) | inr opened ↦ inr opened ];
    taken = one.taken;
  }

  module _ (is_found : LeftFiles → Result Bool OfficeFault → Type 0) (has_damaged : K → Bytes → Type 0) {O : Type 0} (session : O → OfficeSession K) (tally : O → Option Openings) (log : O → Option ServingFault) where
    reported_so : (IsSo : Type 0) (old new : O) (input : Input ImportState) (poll : Poll ImportState) → IsToldBy meaning is_opened is_found has_damaged session tally log IsSo old input poll new
        → IsReportedOver (state_of_session (session old)) input poll (state_of_session (session new))
    reported_so IsSo old new input poll (inl (one, so)) =
        inl (taken_over (AreAsLeft is_found (session old)) (state_of_session (session old)) (state_of_session (session new)) input poll one)
    reported_so IsSo old new input poll (inr away) = inr (away.idle, inl (away.fault, away.reported))

    reported_by : (old new : O) (input : Input ImportState) (poll : Poll ImportState)
        → Yields (AnswersBy meaning is_opened is_found has_damaged session tally log) (ResumesBy meaning is_opened is_found has_damaged session tally log) old input poll new
        → IsReportedOver (state_of_session (session old)) input poll (state_of_session (session new))
    reported_by old new (Request listener requested) poll (inl one) = reported_so _ old new (Request listener requested) poll one
    reported_by old new (Request listener requested) poll (inr unheard) =
        inr ((inl (ap (λ s. (state_of_session s).keep) unheard.same_session), ap (λ s. s.openings) unheard.same_session), inr unheard.silent)
    reported_by old new (Task import) poll one = reported_so _ old new (Task import) poll one

    told_over : (old new : O) (turns : List (Turn ImportState))
        → TakesTurns (AnswersBy meaning is_opened is_found has_damaged session tally log) (ResumesBy meaning is_opened is_found has_damaged session tally log) old turns new
        → TurnsLead (state_of_session (session old)) turns (state_of_session (session new))
    told_over old new [] same = ap (λ o. state_of_session (session o)) same
    told_over old new (t ∷ turns) (middle, one, rest) =
        (state_of_session (session middle), reported_by old middle t.input t.poll one, told_over middle new turns rest)

    -- The inputs while one office stayed open are a run over it.
    pub sitting : ((k : K) (c : Content) → meaning.is_honest k → meaning.is_store_open k → meaning.holds k c → meaning.leaves k (c ∷ []))
        → (old new : O) (turns : List (Turn ImportState)) (first : K)
        → TakesTurns (AnswersBy meaning is_opened is_found has_damaged session tally log) (ResumesBy meaning is_opened is_found has_damaged session tally log) old turns new
        → (state_of_session (session old)).keep ≡ Some first → (state_of_session (session new)).openings ≡ (state_of_session (session old)).openings
        → IsSessionRun meaning first turns (state_of_session (session new))
    sitting settled old new turns first reported there count =
        let over = sat (state_of_session (session old)) (state_of_session (session new)) turns first (told_over old new turns reported) there count in
        record {
          last = over.last;
          taken = over.taken;
          those = over.those;
          were = were_served meaning settled (λ keep. keep) first over.last over.taken over.runs;
          left = over.left;
        }
