-- An import that is under way.
use Rattle.std.specs.Prelude.{◌≡◌, ◌≢◌, ◌⊎◌, ◌+◌, ◌≤◌, ℕ, if◌then◌else◌, List, [], ◌++◌, length, take, drop, vec_capacity, vec_len}
use Rattle.std.specs.Global.{Vec}
use Rattle.toll_desk.specs.Steps.{IsKeepStep}
use Rattle.toll_plant.specs.Common.{AllByRecursion, list_any, Bytes, Meaning}
use Rattle.toll_plant.specs.Files.{Fields, HasActuals}
use Rattle.toll_plant.specs.Imports.{AreNumberedFrom, CanBeStaged, Commands, HasValidValues, commands_in, group_steps, outcomes_in}
use Rattle.toll_plant.specs.Outcomes.{is_fault_outcome}
use Rattle.toll_plant.specs.declared.grouping.TheConstants.{GROUP_RECORDS}
use Rattle.toll_plant.specs.declared.importing.TheConstants.{MOST_FILE_BYTES}
use Rattle.toll_plant.specs.declared.outcome.Outcome.{Outcome}
use Rattle.toll_plant.specs.declared.report.ImportLine.{ImportLine}

-- an import under way: the commands of the records that are left, and the lines of those that were done
pub record ImportState : Type 0 where
  pub left : Commands
  pub lines : List ImportLine

-- The records from this one on are left. Their commands can be staged, and there is room for all lines and outcomes. The lines so far are
-- numbered.
pub record IsUnderWay (commands : Commands) (next : ℕ) (lines : Vec ImportLine) (reported : Vec Outcome) : Type 0 where
  pub within : next ≤ length commands
  pub can : AllByRecursion CanBeStaged (drop next commands)
  pub valid : AllByRecursion HasValidValues (drop next commands)
  pub room : vec_len lines + length commands ≤ vec_capacity lines + next
  pub buffer : GROUP_RECORDS ≤ vec_capacity reported
  pub numbered : AreNumberedFrom 1 lines.items

-- The file is not too long, and all of its records are left.
pub record IsBegun (file : Bytes) (import : ImportState) : Type 0 where
  pub bounded : length file ≤ MOST_FILE_BYTES
  pub records : List Fields
  pub read : HasActuals file records
  pub left : import.left ≡ commands_in records
  pub none : import.lines ≡ []

module _ {K : Type 0} (meaning : Meaning K) (old new : K) (was now : ImportState) where
  -- The next records acted as one group, as many as a group may have or all that were left. Their outcomes follow those from before. After
  -- a fault none is left.
  pub record HasActed : Type 0 where
    pub some : was.left ≢ []
    pub valid : AllByRecursion HasValidValues was.left
    pub reported : List Outcome
    pub served : IsKeepStep meaning group_steps old (take GROUP_RECORDS was.left) reported new
    pub said : outcomes_in now.lines ≡ outcomes_in was.lines ++ reported
    pub left : now.left ≡ (if list_any is_fault_outcome reported then [] else drop GROUP_RECORDS was.left)

  -- The next records acted; or none was left, and nothing was done.
  abbrev pub IsResumed : Type 0
  IsResumed = HasActed ⊎ ((was.left ≡ []) × (new ≡ old) × (now ≡ was))
