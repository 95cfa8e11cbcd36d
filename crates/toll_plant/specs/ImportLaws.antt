-- What imports do with keys.
use Rattle.std.specs.Prelude.{◌≡◌, ◌⊎◌, ◌+◌, ◌≤◌, ℕ, Bool, true, false, ◌&&◌, if◌then◌else◌, Option, Some, List, [], ◌∷◌, ◌++◌, option_and_then}
use Rattle.toll_plant.specs.Common.{AllByRecursion, Bytes, same_bytes, count, is_some_where, total, History, acts, PlantCmd, recorded_command}
use Rattle.toll_base.specs.Moves.{same_movement}
use Rattle.toll_base.specs.declared.movement.MoveRow.{MoveRow}
use Rattle.toll_history.specs.Command.{Record, by}
use Rattle.toll_history.specs.Laws.{has_this_key}
use Rattle.toll_history.specs.Movements.{movement_of, voided_in}
use Rattle.toll_plant.specs.Files.{Fields}
use Rattle.toll_plant.specs.Imports.{IsImport, commands_in}
use Rattle.toll_plant.specs.Outcomes.{is_fault_outcome, is_outcome_accepted}
use Rattle.toll_plant.specs.declared.outcome.Outcome.{Outcome}
use Rattle.toll_plant.specs.declared.outcome.Outcome.TheVariants.{Accepted, Repeated}

-- ---- many imports

-- an import: the records of a file, and their outcomes
pub record Imported : Type 0 where
  pub records : List Fields
  pub outcomes : List Outcome

-- These imports, one after another, lead from the old history to the new one. Other commands may be accepted between and after them.
abbrev pub AreImports : History → List Imported → History → Type 0
AreImports old [] new = (others : History) × (new ≡ others ++ old)
AreImports old (i ∷ imports) new =
    (others : History) × (middle : History) × IsImport (others ++ old) (commands_in i.records) i.outcomes middle × AreImports middle imports new

-- ---- one key

-- whether the command records a movement of this owner with this key
abbrev pub is_keyed : (o key : Bytes) → Option PlantCmd → Bool
is_keyed o key command = is_some_where (λ c. same_bytes c.owner o && has_this_key key c.action) (option_and_then recorded_command command)

-- how many records of this owner with this key were accepted
abbrev pub count_accepted : (o key : Bytes) → List (Option PlantCmd) → List Outcome → ℕ
count_accepted o key (c ∷ commands) (outcome ∷ outcomes) = (if is_outcome_accepted outcome && is_keyed o key c then 1 else 0) + count_accepted o key commands outcomes
count_accepted o key _ _ = 0

-- how many were in all of these imports
abbrev pub accepted_in_imports : (o key : Bytes) → List Imported → ℕ
accepted_in_imports o key imports = total (λ i. count_accepted o key (commands_in i.records) i.outcomes) imports

-- how many movements of this owner with this key the history has
abbrev pub count_keyed : (o key : Bytes) → History → ℕ
count_keyed o key H = count (has_this_key key) (acts o H)

-- ---- standing records

-- The record is an actual that the history has, equal in every field, and no command voids it.
pub record IsRecordStanding (H : History) (command : Option PlantCmd) : Type 0 where
  pub owner : Bytes
  pub row : MoveRow
  pub requested : option_and_then recorded_command command ≡ Some (by owner (Record row))
  pub equal : is_some_where (same_movement row) (movement_of (acts owner H) row.key) ≡ true
  pub unvoided : voided_in (acts owner H) row.key ≡ false

-- The outcome is accepted or repeated.
abbrev pub IsAcceptedOrRepeated : Outcome → Type 0
IsAcceptedOrRepeated outcome = (outcome ≡ Accepted) ⊎ (outcome ≡ Repeated)

-- The outcome is repeated or a fault.
abbrev pub IsRepeatedOrFault : Outcome → Type 0
IsRepeatedOrFault outcome = (outcome ≡ Repeated) ⊎ (is_fault_outcome outcome ≡ true)

-- ---- what the laws say

-- The history and the imports together accept at most one movement of this owner with this key.
abbrev pub ActsOnce : (o key : Bytes) → History → List Imported → Type 0
ActsOnce o key old imports = count_keyed o key old + accepted_in_imports o key imports ≤ 1

-- Each of the records stands in the history.
abbrev pub AreRecordsStanding : History → List Fields → Type 0
AreRecordsStanding H records = AllByRecursion (IsRecordStanding H) (commands_in records)

-- The import of these records changes nothing. Each outcome is repeated, up to a fault.
abbrev pub AreRepeated : History → List Fields → Type 0
AreRepeated old records =
    (new : History) (outcomes : List Outcome) → IsImport old (commands_in records) outcomes new → (new ≡ old) × AllByRecursion IsRepeatedOrFault outcomes

-- If the import of these records leads to the new history, and each was accepted or repeated, then each stands there.
abbrev pub StandOnceImported : (old new : History) → List Fields → Type 0
StandOnceImported old new records = (outcomes : List Outcome) → IsImport old (commands_in records) outcomes new → AllByRecursion IsAcceptedOrRepeated outcomes → AreRecordsStanding new records
