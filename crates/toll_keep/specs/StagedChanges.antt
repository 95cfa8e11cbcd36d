-- Changes that are staged before a keep, and what was read of it.
use Rattle.std.specs.Prelude.{◌≡◌, ◌⊎◌, false, [], Result, OnOk, OnErr}
use Rattle.toll_keep.specs.Common.{list_any}
use Rattle.toll_keep.specs.Content.{Content, content_after}
use Rattle.toll_keep.specs.CallEffects.{IsReading}
use Rattle.toll_keep.specs.Meaning.{Meaning, OverContent}
use Rattle.toll_keep.specs.Reads.{HaveRead, IsContentKept}
use Rattle.toll_keep.specs.Remembered.{AreOf, is_addition}
use Rattle.toll_keep.specs.declared.keep_fault.KeepFault.{KeepFault}
use Rattle.toll_keep.specs.declared.staged_changes.StagedChanges.{StagedChanges}

-- The staged slices are slices of the content with the staged changes, none of which adds an owner or a unit.
pub record IsOver (c : Content) (o : StagedChanges) : Type 0 where
  pub slices : AreOf (content_after o.changes.items c) o.slices.items
  pub puts : list_any is_addition o.changes.items ≡ false

-- If the keep is honest after the call, P holds of the content that it held before, with the staged changes.
abbrev pub OverLaid : {K : Type 0} → Meaning K → (old new : K) → StagedChanges → (Content → Type 0) → Type 0
OverLaid meaning old new o P = OverContent meaning old new (λ c. IsOver c o → P (content_after o.changes.items c))

-- Since the first of these keeps, none was used and no slice was read; or each reading call was answered.
abbrev pub IsReadThrough : {K : Type 0} → Meaning K → (first now : K) → StagedChanges → Type 0
IsReadThrough meaning first now o = ((now ≡ first) × (o.slices.items ≡ [])) ⊎ HaveRead meaning first now

-- The keep was read with the staged changes. This reading call, and those since the first of these keeps, were answered or failed.
pub record ReadsThrough {K X : Type 0} (meaning : Meaning K) (old new : K) (before : StagedChanges) (result : Result X KeepFault) : Type 0 where
  pub answered : (first : K) → IsReadThrough meaning first old before → OnOk result (HaveRead meaning first new)
  pub failed : (first : K) → IsReadThrough meaning first old before → OnErr result (IsReading meaning first new result)
  pub kept : IsContentKept meaning old new
