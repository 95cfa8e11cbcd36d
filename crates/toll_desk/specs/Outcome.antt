-- What came of what was asked, over a keep.
use Rattle.std.specs.Prelude.{◌≡◌, List, [], ◌∷◌, Result, Ok, Err, OnOk, OnErr}
use Rattle.toll_desk.specs.Common.{AllChangesFit, CallEffect, Change, Content, History, KeepFault, Meaning, OverContent, Settles, content_after}
use Rattle.toll_keep.specs.CallEffects.{FindsNoDamage}
use Rattle.toll_keep.specs.Meaning.{OverLive}
use Rattle.toll_desk.specs.Representing.{Represents}

-- the outcome of a plan once its changes were made, or not
abbrev pub finished : {X : Type 0} → Result X KeepFault → Result (Unit {0}) KeepFault → Result X KeepFault
finished outcome (Ok made) = outcome
finished outcome (Err fault) = Err fault

-- The effect of making these changes: all of them, or none after a fault. A stop leaves the content from before or after. If there are no
-- changes, the keep is not called.
pub record CommitEffect {K : Type 0} (meaning : Meaning K) (old new : K) (changes : List Change) (result : Result (Unit {0}) KeepFault) : Type 0 where
  pub honest : meaning.is_honest new → meaning.is_honest old
  pub idle : changes ≡ [] → (new ≡ old) × (result ≡ Ok tt)
  pub goes : (changes ≡ [] → ⊥) → CallEffect meaning old new result
  pub settles : Settles meaning old new
  pub all : OverContent meaning old new (λ c. AllChangesFit c changes → OnOk result (meaning.holds new (content_after changes c)))
  pub none : OverContent meaning old new (λ c. OnErr result (meaning.holds new c))
  pub whole : FindsNoDamage meaning old new result
  pub crash : OverLive meaning old new (λ c. AllChangesFit c changes → meaning.leaves new (c ∷ content_after changes c ∷ []))

-- each of these contents stands for the history
abbrev pub AllRepresent : History → List Content → Type 0
AllRepresent G [] = Unit {0}
AllRepresent G (c ∷ cs) = Represents c G × AllRepresent G cs

-- a stop leaves this content, or one that stands for that history
pub record LeavesOr (leaves : List Content → Type 0) (c : Content) (G : History) : Type 0 where
  pub others : List Content
  pub stand : AllRepresent G others
  pub left : leaves (c ∷ others)

-- a content that stands for the history is held
pub record HoldsFor (holds : Content → Type 0) (G : History) : Type 0 where
  pub content : Content
  pub held : holds content
  pub stands : Represents content G
