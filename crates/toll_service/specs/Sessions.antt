-- How a server answers its clients, over an office that stays open between turns.
use Rattle.std.specs.Prelude.{◌≡◌, ◌⊎◌, ◌↔◌, ◌+◌, ◌-◌, ◌<◌, ◌^◌, ℕ, Bool, false, true, min, List, [], ◌∷◌, Option, None, Some, IsSome, option_map, Result, Ok, Err}
use Rattle.toll_base.specs.Bytes.{Bytes}
use Rattle.toll_files.specs.Faults.{fault_text}
use Rattle.toll_files.specs.FileChanges.{AreFound}
use Rattle.toll_files.specs.declared.file_stamps.LeftFiles.{LeftFiles}
use Rattle.toll_files.specs.declared.fault_log.ServingFault.{ServingFault}
use Rattle.toll_files.specs.declared.fault_log.ServingFault.TheVariants.{Office}
use Rattle.toll_files.specs.declared.office_fault.OfficeFault.{OfficeFault}
use Rattle.toll_files.specs.declared.office_fault.OfficeFault.TheVariants.{Damaged, Memory}
use Rattle.toll_keep.specs.CallEffects.{IsReading}
use Rattle.toll_keep.specs.Meaning.{Meaning}
use Rattle.toll_keep.specs.declared.keep_fault.KeepFault.{KeepFault}
use Rattle.toll_keep.specs.declared.keep_fault.KeepFault.TheVariants.{Damaged as FoundDamaged}
use Rattle.toll_service.specs.Damages.{HasFoundDamage, IsKnown, IsNoted, KnowsNoMore, KnowsNothing, StaysWhere}
use Rattle.toll_service.specs.Openings.{IsOneOpened, IsRefusedAfter, IsSomeRefused, IsNoneOpened, Openings}
use Rattle.toll_service.specs.declared.damage.Damage.{Damage}
use Rattle.toll_service.specs.declared.office_session.OfficeSession.{OfficeSession}
use Rattle.toll_protocol.specs.PlantMessages.{IsResponse}
use Rattle.toll_server.specs.Runs.{Input, Request, Task, Yields, TakesTurns, Turn}
use Rattle.toll_server.specs.declared.listener.Listener.{Listener}
use Rattle.toll_server.specs.declared.listener.Listener.TheVariants.{Owners, Plant}
use Rattle.toll_server.specs.declared.poll.Poll.{Poll}
use Rattle.toll_server.specs.declared.poll.Poll.TheVariants.{Ready, Pending}
use Rattle.toll_plant.specs.ImportStates.{ImportState}
use Rattle.toll_programs.specs.Statuses.{exit_code}
use Rattle.toll_programs.specs.declared.status.Status.TheVariants.{Failed}
use Rattle.toll_service.specs.Listeners.{IsImportAborted, IsReadyWith, ReportsFault}
use Rattle.toll_service.specs.Serving.{AnswersOver, ResumesOver, WereServed}
use Rattle.toll_wire.specs.OutTexts.{out_bytes}
use Rattle.toll_wire.specs.declared.outgoing.Out.TheVariants.{Unavailable}

-- the office that a server has open, if it has one, and how often it has opened one
pub record SessionState (K : Type 0) : Type 0 where
  pub keep : Option K
  pub openings : ℕ

-- The response says that no office is available because of this fault: 503 for owners; for the plant, its line and the exit status of a
-- failure.
abbrev pub IsRefusal : OfficeFault → Listener → Bytes → Type 0
IsRefusal fault Owners reported = reported ≡ out_bytes Unavailable
IsRefusal fault Plant reported = IsResponse reported (exit_code Failed) [] (fault_text fault)

-- The response reports the outcomes of the import's records so far and the line of this fault, with the exit status of a failure.
abbrev pub IsGivenUp : OfficeFault → ImportState → Bytes → Type 0
IsGivenUp fault import reported = IsImportAborted import.lines (fault_text fault) reported false

-- The response to an input says that no office is available because of this fault: a request is refused, and an import aborted.
abbrev pub IsUnserved : OfficeFault → Input ImportState → Bytes → Type 0
IsUnserved fault (Request listener requested) reported = IsRefusal fault listener reported
IsUnserved fault (Task import) reported = IsGivenUp fault import reported

-- The response to a request is empty.
abbrev pub IsSilent : Input ImportState → Poll ImportState → Type 0
IsSilent (Request listener requested) poll = IsReadyWith poll (λ reported. reported ≡ [])
IsSilent (Task import) poll = ⊥

-- The response names a fault because of which no office is available, or it is empty.
abbrev pub IsTurnedAway : Input ImportState → Poll ImportState → Type 0
IsTurnedAway input poll = ((fault : OfficeFault) × IsReadyWith poll (IsUnserved fault input)) ⊎ IsSilent input poll

-- The input is withheld for this cause; or it is known to meet damage, and IsSo holds.
abbrev pub HasWithholdingCause : (cause IsSo : Type 0) → Damage → Input ImportState → Type 0
HasWithholdingCause cause IsSo known (Request listener requested) = cause ⊎ (IsKnown known listener requested × IsSo)
HasWithholdingCause cause IsSo known (Task import) = cause

-- how many imports are under way after a request, which may begin one, and after a turn of an import, which may end it
abbrev pub imports_if_begun : Poll ImportState → ℕ → ℕ
imports_if_begun (Ready reported) imports = imports
imports_if_begun (Pending import) imports = min (imports + 1) (2 ^ 64 - 1)

abbrev pub imports_if_ended : Poll ImportState → ℕ → ℕ
imports_if_ended (Ready reported) imports = imports - 1
imports_if_ended (Pending import) imports = imports

module _ {K : Type 0} where
  -- No office is open, and none was opened.
  abbrev pub IsSessionUnopened : SessionState K → Type 0
  IsSessionUnopened s = (s.keep ≡ None) × (s.openings ≡ 0)

  -- The open office is unchanged, or was closed, and none was opened.
  abbrev pub IsSessionIdle : SessionState K → SessionState K → Type 0
  IsSessionIdle old new = ((new.keep ≡ old.keep) ⊎ (new.keep ≡ None)) × (new.openings ≡ old.openings)

  -- The office stays open as the turn left it, or was closed.
  abbrev pub IsLeftOpen : K → SessionState K → Type 0
  IsLeftOpen last new = (new.keep ≡ Some last) ⊎ (new.keep ≡ None)

  -- The office is the open one, in unchanged files; or it was opened now.
  abbrev pub IsAtHand : (K → Type 0) → (IsAsLeft : Type 0) → SessionState K → SessionState K → K → Type 0
  IsAtHand is_opened IsAsLeft old new first =
      ((old.keep ≡ Some first) × (new.openings ≡ old.openings) × IsAsLeft) ⊎ (is_opened first × (new.openings ≡ old.openings + 1))

  -- The session and the opener count the same openings, and none was refused.
  abbrev pub AreCounted : SessionState K → SessionState K → (before behind : Option Openings) → Type 0
  AreCounted old new before behind =
      ((new.openings ≡ old.openings) × IsNoneOpened before behind) ⊎ ((new.openings ≡ old.openings + 1) × IsOneOpened before behind)

  -- Reading calls led from the one keep to the other, whatever the last of them answered.
  abbrev pub HasReadAhead : Meaning K → K → K → Type 0
  HasReadAhead meaning first last = (answer : Result (Unit {0}) KeepFault) × IsReading meaning first last answer

  -- Either none was opened and at most one was refused; or one was opened, only reading calls followed, and it stays open or was closed.
  abbrev pub IsOpenedAhead : Meaning K → (K → Type 0) → (before behind : Option Openings) → SessionState K → Type 0
  IsOpenedAhead meaning is_opened before behind s =
      (IsSessionUnopened s × (IsNoneOpened before behind ⊎ IsSomeRefused before behind))
      ⊎ ((first last : K) × is_opened first × HasReadAhead meaning first last × IsLeftOpen last s × (s.openings ≡ 1) × IsOneOpened before behind)

  -- This office was open at first, and none was opened since.
  abbrev pub IsOneOffice : K → SessionState K → SessionState K → Type 0
  IsOneOffice first old new = (old.keep ≡ Some first) × (new.openings ≡ old.openings)

  -- the office that a session has open, and how often it has opened one
  abbrev pub state_of_session : OfficeSession K → SessionState K
  state_of_session s = record { keep = option_map (λ o. o.keep) s.opened; openings = s.openings }

  -- The session keeps the lock of the file while an import is under way, and no longer.
  abbrev pub IsLockKept : OfficeSession K → Type 0
  IsLockKept s = IsSome s.lock ↔ (0 < s.imports)

  -- The session has answered nothing yet.
  pub record IsNewSession (s : OfficeSession K) : Type 0 where
    pub unopened : IsSessionUnopened (state_of_session s)
    pub unknown : KnowsNothing s.damage
    pub left : s.left ≡ None
    pub imports : s.imports ≡ 0
    pub lock : IsLockKept s

  -- No other program has changed the files since the session left them: it kept their lock, or compared them and found them unchanged.
  abbrev pub AreAsLeft : (LeftFiles → Result Bool OfficeFault → Type 0) → OfficeSession K → Type 0
  AreAsLeft is_found s = IsSome s.lock ⊎ AreFound is_found s.left (Ok true)

  -- This office is at hand between the two: the session's open one, in unchanged files, or one that was opened now.
  abbrev pub IsUsedBy : (K → Type 0) → (LeftFiles → Result Bool OfficeFault → Type 0) → (old new : OfficeSession K) → K → Type 0
  IsUsedBy is_opened is_found old new = IsAtHand is_opened (AreAsLeft is_found old) (state_of_session old) (state_of_session new)

  -- The look at the files that the session left found this fault, since committed changes are lost. No office was opened or refused.
  abbrev pub IsFoundLost : (LeftFiles → Result Bool OfficeFault → Type 0) → OfficeFault → OfficeSession K → (before behind : Option Openings) → Type 0
  IsFoundLost is_found fault s before behind = AreFound is_found s.left (Err fault) × IsNoneOpened before behind

  -- No office is available because of this fault: a lock or an opening was refused for it, the openings can't be counted any further, or
  -- committed changes are lost.
  abbrev pub IsWithheld : (LeftFiles → Result Bool OfficeFault → Type 0) → OfficeFault → OfficeSession K → (before behind : Option Openings) → Type 0
  IsWithheld is_found fault s before behind = IsRefusedAfter fault s.openings before behind ⊎ IsFoundLost is_found fault s before behind

module _ {K : Type 0} (meaning : Meaning K) where
  -- The input had this outcome over this office, which stays open or is closed.
  pub record IsTakenFrom (first : K) (input : Input ImportState) (poll : Poll ImportState) (new : SessionState K) : Type 0 where
    pub last : K
    pub comes : Yields (AnswersOver meaning (λ keep. keep)) (ResumesOver meaning (λ keep. keep)) first input poll last
    pub ends : IsLeftOpen last new

module _ {K : Type 0} (meaning : Meaning K) (is_opened : K → Type 0) where
  -- The input had this outcome over the open office, or over one that was opened for it.
  pub record IsAnsweredAtHand (IsAsLeft : Type 0) (old : SessionState K) (input : Input ImportState) (poll : Poll ImportState) (new : SessionState K) : Type 0 where
    pub first : K
    pub begins : IsAtHand is_opened IsAsLeft old new first
    pub taken : IsTakenFrom meaning first input poll new

module _ {K : Type 0} (meaning : Meaning K) (is_opened : K → Type 0) (is_found : LeftFiles → Result Bool OfficeFault → Type 0) where
  -- The same for a session.
  abbrev pub TakesInput : OfficeSession K → Input ImportState → Poll ImportState → OfficeSession K → Type 0
  TakesInput old input poll new = IsAnsweredAtHand meaning is_opened (AreAsLeft is_found old) (state_of_session old) input poll (state_of_session new)

  module _ {O : Type 0} (has_damaged : K → Bytes → Type 0) (session : O → OfficeSession K) (tally : O → Option Openings)
      (log : O → Option ServingFault) where
    -- No office was used because of a fault. The response names it, and so does the operator's log, unless it is damage that was known. The
    -- session knows no more of the files and their damage than before.
    pub record IsTurnedAwayFor (old : O) (input : Input ImportState) (poll : Poll ImportState) (new : O) : Type 0 where
      pub fault : OfficeFault
      pub cause : HasWithholdingCause (IsWithheld is_found fault (session old) (tally old) (tally new) × (log new ≡ Some (Office fault)))
          ((fault ≡ Damaged) × AreAsLeft is_found (session old) × (tally new ≡ tally old) × (log new ≡ log old)) (session old).damage input
      pub reported : IsReadyWith poll (IsUnserved fault input)
      pub idle : IsSessionIdle (state_of_session (session old)) (state_of_session (session new))
      pub left : (session new).left ≡ (session old).left
      pub known : KnowsNoMore (session old).damage (session new).damage

    -- Nothing was done, and the response is empty: the plant's listener received nothing; or there was no memory for a refusal, which the
    -- operator's log names.
    pub record IsUnheard (old : O) (listener : Listener) (requested : Bytes) (poll : Poll ImportState) (new : O) : Type 0 where
      pub silent : IsSilent (Request listener requested) poll
      pub same_session : session new ≡ session old
      pub same_tally : tally new ≡ tally old
      pub cause : ((listener ≡ Plant) × (requested ≡ []) × (log new ≡ log old)) ⊎ (log new ≡ Some (Office Memory))

    -- The input was taken and IsSo holds, or it was turned away.
    abbrev pub IsToldBy : (IsSo : Type 0) → O → Input ImportState → Poll ImportState → O → Type 0
    IsToldBy IsSo old input poll new = (TakesInput (session old) input poll (session new) × IsSo) ⊎ IsTurnedAwayFor old input poll new

    -- The owner of a session answers a request by it. Damage that was known before stays known only if no other program has changed the
    -- files. New damage was met in this turn.
    abbrev pub AnswersBy : O → Listener → Bytes → Poll ImportState → O → Type 0
    AnswersBy old listener requested poll new =
        IsToldBy (IsNoted (HasFoundDamage meaning has_damaged (IsUsedBy is_opened is_found (session old) (session new)))
        (AreAsLeft is_found (session old)) (ReportsFault FoundDamaged poll) (session old).damage (session new).damage listener requested)
        old (Request listener requested) poll new
        ⊎ IsUnheard old listener requested poll new

    -- The owner of a session goes on with an import by it.
    abbrev pub ResumesBy : O → ImportState → Poll ImportState → O → Type 0
    ResumesBy old import poll new =
        IsToldBy (StaysWhere (AreAsLeft is_found (session old)) (session old).damage (session new).damage) old (Task import) poll new

-- The second list has the turns that used an office, in order. In all others the client was turned away.
abbrev pub AreThoseTaken : List (Turn ImportState) → List (Turn ImportState) → Type 0
AreThoseTaken [] taken = taken ≡ []
AreThoseTaken (t ∷ turns) taken =
    (IsTurnedAway t.input t.poll × AreThoseTaken turns taken)
    ⊎ ((rest : List (Turn ImportState)) × (taken ≡ t ∷ rest) × AreThoseTaken turns rest)

-- The turns that used the office, while it stood open, are a run over it.
pub record IsSessionRun {K : Type 0} (meaning : Meaning K) (first : K) (turns : List (Turn ImportState)) (new : SessionState K) : Type 0 where
  pub last : K
  pub taken : List (Turn ImportState)
  pub those : AreThoseTaken turns taken
  pub were : WereServed meaning first last taken
  pub left : IsLeftOpen last new

-- While one office stands open and none is opened, the turns of a session's owner are a run over it.
abbrev pub AreSessionRuns : {K : Type 0} → Meaning K → (K → Type 0) → (LeftFiles → Result Bool OfficeFault → Type 0)
    → (K → Bytes → Type 0) → Type 0 → Type 0
AreSessionRuns {K} meaning is_opened is_found has_damaged O =
    (session : O → OfficeSession K) (tally : O → Option Openings) (log : O → Option ServingFault)
    (old new : O) (turns : List (Turn ImportState)) (first : K)
    → TakesTurns (AnswersBy meaning is_opened is_found has_damaged session tally log)
    (ResumesBy meaning is_opened is_found has_damaged session tally log) old turns new
    → IsOneOffice first (state_of_session (session old)) (state_of_session (session new)) → IsSessionRun meaning first turns (state_of_session (session new))
