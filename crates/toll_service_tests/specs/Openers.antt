-- What a service does for one client over an opener with a known tally.
use Rattle.std.specs.Prelude.{◌≡◌, ◌⊎◌, List, [], Option, Some, map, reverse}
use Rattle.toll_base.specs.Bytes.{Bytes}
use Rattle.toll_files.specs.declared.fault_log.ServingFault.{ServingFault}
use Rattle.toll_files.specs.declared.fault_log.ServingFault.TheVariants.{Office}
use Rattle.toll_files.specs.declared.office_fault.OfficeFault.{OfficeFault}
use Rattle.toll_files.specs.declared.office_fault.OfficeFault.TheVariants.{Memory}
use Rattle.toll_keep.specs.Meaning.{Meaning}
use Rattle.toll_plant.specs.ImportStates.{ImportState}
use Rattle.toll_server.specs.declared.listener.Listener.{Listener}
use Rattle.toll_server.specs.declared.listener.Listener.TheVariants.{Plant}
use Rattle.toll_server.specs.declared.poll.Poll.{Poll}
use Rattle.toll_service.specs.Doing.{IsDoneOver}
use Rattle.toll_service.specs.Listeners.{IsReadyWith, IsServedIfRoom}
use Rattle.toll_service.specs.Openings.{Openings, one_refused_more}
use Rattle.toll_service.specs.Sessions.{IsRefusal}
use Rattle.toll_service.specs.declared.office_service.OfficeService.{OfficeService}

-- the faults of a log of refusals, newest first
abbrev pub faults_of : {X : Type 0} → List (OfficeFault × X) → List OfficeFault
faults_of refused = map (λ r. r.0) (reverse refused)

-- The latest refusal was for this fault.
abbrev pub IsRefusedLast : OfficeFault → Option Openings → Type 0
IsRefusedLast fault tally = (earlier : Openings) × (tally ≡ Some (one_refused_more fault earlier))

-- the owners whose rows a service knows to be damaged
abbrev pub damaged_owners : {K O : Type 0} → OfficeService K O → List Bytes
damaged_owners service = service.session.damage.owners.items

module _ {K : Type 0} (meaning : Meaning K) where
  -- The client was answered over an office that was opened for it. Or it was turned away for the fault of the opener's latest refusal,
  -- which the operator's log has. Or it got no bytes: it asked the plant's listener nothing, or memory lacked, which the log has.
  abbrev pub IsAnsweredAnew : (is_opened : K → Type 0) → Option Openings → Option ServingFault → Listener → Bytes → Poll ImportState → Type 0
  IsAnsweredAnew is_opened tally log listener requested poll =
      IsDoneOver is_opened (λ first last. IsServedIfRoom meaning first last listener requested poll)
      ⊎ (((fault : OfficeFault) × IsReadyWith poll (IsRefusal fault listener) × IsRefusedLast fault tally × (log ≡ Some (Office fault)))
      ⊎ (IsReadyWith poll (λ reported. reported ≡ []) × (((listener ≡ Plant) × (requested ≡ [])) ⊎ (log ≡ Some (Office Memory)))))
