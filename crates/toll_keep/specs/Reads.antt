-- Reading calls, one after another.
use Rattle.std.specs.Prelude.{Ok, Result}
use Rattle.toll_keep.specs.Content.{Content}
use Rattle.toll_keep.specs.CallEffects.{IsReading}
use Rattle.toll_keep.specs.Meaning.{Meaning}
use Rattle.toll_keep.specs.declared.keep_fault.KeepFault.{KeepFault}

module _ {K : Type 0} (meaning : Meaning K) (old new : K) where
  -- Reading calls led from the one keep to the other, and each was answered.
  abbrev pub HaveRead : Type 0
  HaveRead = IsReading {X = Unit {0}} meaning old new (Ok tt)

  -- A keep that is honest now was honest before, and still holds what it held.
  abbrev pub IsContentKept : Type 0
  IsContentKept = meaning.is_honest new → meaning.is_honest old × ((c : Content) → meaning.holds old c → meaning.holds new c)

module _ {K X : Type 0} (meaning : Meaning K) (old new : K) (result : Result X KeepFault) where
  -- After reading calls that were answered, this was one more.
  abbrev pub ReadsOneMore : Type 0
  ReadsOneMore = (first : K) → HaveRead meaning first old → IsReading meaning first new result
