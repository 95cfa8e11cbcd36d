-- Records of a group, whose changes are staged until all of them are done.
use Rattle.std.specs.Prelude.{◌≡◌, ◌++◌, false, Option, Some, None, List, [], ◌∷◌, Result, Ok, Err, IfErr}
use Rattle.toll_plant.specs.Common.{list_any, Meaning, KeepFault, Memory, PlantCmd}
use Rattle.toll_keep.specs.declared.staged_changes.StagedChanges.{StagedChanges}
use Rattle.toll_desk.specs.Outcome.{CommitEffect}
use Rattle.toll_desk.specs.PlantStaged.{IsPlantStaged}
use Rattle.toll_desk.specs.Translations.{meaning_of_plant_reply}
use Rattle.toll_desk.specs.declared.plant_cmd.PlantReply.{PlantReply}
use Rattle.toll_history.specs.Runs.{IsRun}
use Rattle.toll_plant.specs.Imports.{Commands, End, EndWith, UpToFault, refused_at}
use Rattle.toll_plant.specs.Outcomes.{is_fault_outcome, record_outcome}
use Rattle.toll_plant.specs.declared.grouping.Staged.{Staged}
use Rattle.toll_plant.specs.declared.outcome.Outcome.{Outcome}
use Rattle.toll_plant.specs.declared.outcome.Outcome.TheVariants.{BadRecord}

module _ {K : Type 0} (meaning : Meaning K) where
  -- A record's command is staged, and the outcome is its reply. A record that gives no command uses nothing.
  abbrev pub IsRecordStaged : K × StagedChanges → Option PlantCmd → Result Outcome KeepFault → K × StagedChanges → Type 0
  IsRecordStaged old None (Ok outcome) new = (outcome ≡ BadRecord) × (new ≡ old)
  IsRecordStaged old None (Err fault) new = ⊥
  IsRecordStaged old (Some command) (Ok outcome) new =
      (reply : PlantReply) × IsPlantStaged meaning old command (Ok reply) new × (outcome ≡ record_outcome (meaning_of_plant_reply reply))
  IsRecordStaged old (Some command) (Err fault) new = IsPlantStaged meaning old command (Err fault) new

  -- Records with these commands were staged one after another, behind no other changes, and had these outcomes.
  pub record AreRecordsStaged (old : K) (commands : Commands) (reported : List Outcome) (new : K × StagedChanges) : Type 0 where
    pub first : StagedChanges
    pub no_changes : first.changes.items ≡ []
    pub no_slices : first.slices.items ≡ []
    pub run : IsRun (λ was command outcome is. IsRecordStaged was command (Ok outcome) is) (old, first) commands reported new

  -- The records of a group were staged, up to one for which memory ran out.
  pub record IsGroupStaged (old new : K) (commands : Commands) (reported : List Outcome) (held : Staged) : Type 0 where
    pub staged : StagedChanges
    pub changes : held.changes.items ≡ staged.changes.items
    pub records : UpToFault (λ acted. AreRecordsStaged old acted reported (new, staged)) commands reported
    pub ends : EndWith held.end reported
    pub memory : IfErr held.end (λ fault. fault ≡ Memory)

  -- Records of a group were staged, and the rows of the next one couldn't be read.
  pub record IsGroupUnread (old new : K) (commands : Commands) (reported : List Outcome) (fault : KeepFault) : Type 0 where
    pub acted : Commands
    pub command : Option PlantCmd
    pub rest : Commands
    pub all : acted ++ command ∷ rest ≡ commands
    pub middle : K × StagedChanges
    pub records : AreRecordsStaged old acted reported middle
    pub calm : list_any is_fault_outcome reported ≡ false
    pub staged : StagedChanges
    pub unread : IsRecordStaged middle command (Err fault) (new, staged)

  abbrev pub AreStaged : (old new : K) → Commands → List Outcome → Result Staged KeepFault → Type 0
  AreStaged old new commands reported (Ok held) = IsGroupStaged old new commands reported held
  AreStaged old new commands reported (Err fault) = IsGroupUnread old new commands reported fault

-- ---- the changes of a group, made in the keep

-- If the changes were made, the outcomes and the end stay. Otherwise the outcomes report the fault.
abbrev pub ReportsCommit : End → (reported : List Outcome) → (end : End) → (now : List Outcome) → (result : End) → Type 0
ReportsCommit (Ok done) reported end now result = (now ≡ reported) × (result ≡ end)
ReportsCommit (Err fault) reported end now result = (now ≡ refused_at fault reported) × (result ≡ Err fault)

-- The changes were made in the keep, and the outcomes report the result.
pub record IsCommitted {K : Type 0} (meaning : Meaning K) (old new : K) (held : Staged) (reported now : List Outcome) (result : End) : Type 0 where
  pub answer : End
  pub carried : CommitEffect meaning old new held.changes.items answer
  pub tells : ReportsCommit answer reported held.end now result
