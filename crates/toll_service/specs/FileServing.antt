-- Serving an office in a file.
use Rattle.std.specs.Prelude.{◌≡◌, ℕ, Bool, Option, Result}
use Rattle.toll_files.specs.declared.fault_log.ServingFault.{ServingFault}
use Rattle.toll_files.specs.declared.file_stamps.LeftFiles.{LeftFiles}
use Rattle.toll_files.specs.declared.office_fault.OfficeFault.{OfficeFault}
use Rattle.toll_service.specs.Common.{Bytes, Meaning, Listener, Poll, ImportState}
use Rattle.toll_protocol.specs.declared.streams.sink.Sink as sink
use Rattle.toll_protocol.specs.declared.streams.source.Source as source
use Rattle.toll_server.specs.Networks.{Tally}
use Rattle.toll_server.specs.Queues.{IsServedInTurn}
use Rattle.toll_server.specs.Runs.{IsWholeRun}
use Rattle.toll_server.specs.ServerEvents.{IsServed}
use Rattle.toll_service.specs.Damages.{KnowsNothing}
use Rattle.toll_service.specs.Openings.{Openings}
use Rattle.toll_service.specs.Parties.{IsBy}
use Rattle.toll_service.specs.Sessions.{AnswersBy, IsLockKept, IsOpenedAhead, ResumesBy, state_of_session}
use Rattle.toll_service.specs.declared.office_service.OfficeService.{OfficeService}
use Rattle.toll_service.specs.declared.party.Party.{Party}

-- the tally of a service's opener
abbrev pub openings_of : {K O : Type 0} → (O → Option Openings) → OfficeService K O → Option Openings
openings_of openings service = openings service.office_path.opener

-- the fault that the operator's log has
abbrev pub logged_by : {K O : Type 0} → OfficeService K O → Option ServingFault
logged_by service = service.faults.fault

-- The service has answered nothing yet. Either no office was opened, or one was opened ahead and its rows may have been read. No damage is
-- known, and no import is under way.
pub record IsFresh {K O : Type 0} (meaning : Meaning K) (is_opened : K → Type 0) (openings : O → Option Openings) (before : Option Openings) (service : OfficeService K O) : Type 0 where
  pub begins : IsOpenedAhead meaning is_opened before (openings_of openings service) (state_of_session service.session)
  pub unknown : KnowsNothing service.session.damage
  pub imports : service.session.imports ≡ 0
  pub lock : IsLockKept service.session

module _ {K O : Type 0} (meaning : Meaning K) (is_opened : K → Type 0) (is_found : LeftFiles → Result Bool OfficeFault → Type 0)
    (has_damaged : K → Bytes → Type 0) (openings : O → Option Openings) where
  -- The service of an office in a file answers by its session.
  abbrev pub Answers : OfficeService K O → Listener → Bytes → Poll ImportState → OfficeService K O → Type 0
  Answers = AnswersBy meaning is_opened is_found has_damaged (λ service. service.session) (openings_of openings) logged_by

  -- The service goes on with an import by its session.
  abbrev pub Resumes : OfficeService K O → ImportState → Poll ImportState → OfficeService K O → Type 0
  Resumes = ResumesBy meaning is_opened is_found has_damaged (λ service. service.session) (openings_of openings) logged_by

  -- The service had answered nothing at first and changed by turns alone, in order, among the events of a server over the network. Each import was
  -- continued for the client that began it, and once everything is over, none is left.
  pub record IsFileServed {S : Type 0} (same : Party → Party → Bool) (from : source.Ghosts S) (to : sink.Ghosts S) (limit : Option ℕ) (count : ℕ) (opener : O)
      (before behind : Option (Tally S)) (IsOver : Type 0) : Type 0 where
    pub first : OfficeService K O
    pub last : OfficeService K O
    pub fresh : IsFresh meaning is_opened openings (openings opener) first
    pub run : IsWholeRun Answers Resumes first last IsOver
    pub in_turn : IsServedInTurn same IsBy Answers Resumes first last
    pub most : ℕ
    pub events : IsServed same from to most IsBy Answers Resumes limit count IsOver first last before behind
