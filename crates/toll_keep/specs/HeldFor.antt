-- What is held for some owners, and calls that keep it.
use Rattle.std.specs.Prelude.{◌≡◌, ◌≢◌, List, [], ◌∷◌, Contains, Result, Ok, Err, OnOk, OnErr}
use Rattle.std.proofs.Common.{ap}
use Rattle.toll_keep.specs.Common.{Bytes, Change, Put}
use Rattle.toll_keep.specs.CallEffects.{CallEffect, IsReading, IsSpared, Keeps}
use Rattle.toll_keep.specs.Content.{AllChangesFit, Content, ContentKeepsRules, content_after}
use Rattle.toll_keep.specs.Meaning.{Meaning, OverContent, OverLive}
use Rattle.toll_keep.specs.declared.keep_fault.KeepFault.{KeepFault}
use Rattle.toll_keep.specs.declared.keep_fault.KeepFault.TheVariants.{Memory, Damaged}

-- ---- rows of some owners

-- The two contents have the same owners and units, and the same rows of these owners.
pub record AgreeFor (os : List Bytes) (c d : Content) : Type 0 where
  pub owners : c.owners ≡ d.owners
  pub units : c.units ≡ d.units
  pub rows : (o : Bytes) → Contains os o → c.rows o ≡ d.rows o

-- A content agrees with itself.
pub same_agrees : (os : List Bytes) (c d : Content) → c ≡ d → AgreeFor os c d
same_agrees os c d same = record { owners = ap (λ (t : Content). t.owners) same; units = ap (λ (t : Content). t.units) same; rows = λ o own. ap (λ (t : Content). t.rows o) same }

-- Each of the first owners is one of the second.
abbrev pub AreAmong : List Bytes → List Bytes → Type 0
AreAmong owners os = (o : Bytes) → Contains owners o → Contains os o

-- Each change puts a row of an owner who is not one of these.
abbrev pub PutsOutside : List Bytes → List Change → Type 0
PutsOutside os [] = Unit {0}
PutsOutside os (Put o row ∷ changes) = ¬ (Contains os o) × PutsOutside os changes
PutsOutside os (_ ∷ changes) = ⊥

-- ---- calls of a keep, by one of its meanings

module _ {K X : Type 0} (meaning : Meaning K) (old new : K) (result : Result X KeepFault) where
  -- Whatever the call does and answers, it keeps the content, and a stop leaves that content.
  pub record KeepsHeld : Type 0 where
    pub goes : CallEffect meaning old new result
    pub keeps : meaning.is_honest new → Keeps meaning old new

  -- The call only reads, and P holds of each content that was held.
  pub record ReadsHeld (P : Content → Type 0) : Type 0 where
    pub reading : IsReading meaning old new result
    pub reads : OverContent meaning old new P

module _ {K X : Type 0} (meaning : Meaning K) (old new : K) (result : Result X KeepFault) where
  -- After calls that were answered and kept what was held, this was one more.
  abbrev pub KeepsOneMore : Type 0
  KeepsOneMore = (first : K) → KeepsHeld {X = Unit {0}} meaning first old (Ok tt) → KeepsHeld meaning first new result

  -- The call makes all of these changes, in order, or none.
  pub record MakesHeld (changes : List Change) : Type 0 where
    pub goes : CallEffect meaning old new result
    pub all : OverContent meaning old new (λ c. AllChangesFit c changes → OnOk result (meaning.holds new (content_after changes c)))
    pub none : OverContent meaning old new (λ c. OnErr result (meaning.holds new c))
    pub spared : result ≡ Err Memory → IsSpared meaning old new
    pub whole : OverContent meaning old new (λ c. ContentKeepsRules c → result ≢ Err Damaged)
    pub crash : OverLive meaning old new (λ c. AllChangesFit c changes → meaning.leaves new (c ∷ content_after changes c ∷ []))
