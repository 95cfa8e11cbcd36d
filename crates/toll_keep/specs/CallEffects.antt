-- The effect of each call of a keep, whatever it answers.
use Rattle.std.specs.Prelude.{◌≡◌, ◌≢◌, ◌↔◌, ◌⊎◌, Bool, true, false, IsTrue, List, [], ◌∷◌, ◌++◌, Result, Ok, Err, OnOk}
use Rattle.std.proofs.Common.{inl, inr}
use Rattle.toll_keep.specs.Content.{Content, ContentKeepsRules}
use Rattle.toll_keep.specs.Meaning.{Meaning, OverContent, OverLive}
use Rattle.toll_keep.specs.declared.keep_fault.KeepFault.{KeepFault}
use Rattle.toll_keep.specs.declared.keep_fault.KeepFault.TheVariants.{Memory, Disk, Damaged, Closed}

-- whether this answer closes the keep
abbrev pub closes_keep : {X : Type 0} → Result X KeepFault → Bool
closes_keep (Ok x) = false
closes_keep (Err Memory) = false
closes_keep (Err Disk) = true
closes_keep (Err Damaged) = true
closes_keep (Err Closed) = true

module _ {K : Type 0} where
  -- What holds after any call, whatever it answered.
  pub record CallEffect {X : Type 0} (meaning : Meaning K) (old new : K) (result : Result X KeepFault) : Type 0 where
    -- A keep that is honest now was honest before.
    pub honest : meaning.is_honest new → meaning.is_honest old
    -- A call answers Closed if and only if the keep was closed.
    pub closed : (result ≡ Err Closed) ↔ IsTrue (meaning.is_closed old)
    -- The keep is closed if and only if this answer closes it.
    pub closes : meaning.is_closed new ≡ closes_keep result
    -- A store that is live now was live before, and a call that succeeds shows that it is.
    pub live : meaning.is_honest new → meaning.is_store_open new → meaning.is_store_open old
    pub shown : meaning.is_honest new → OnOk result (meaning.is_store_open new)
    -- Whatever the answer, a live store stays live, or it met a cause of Disk.
    pub lasts : meaning.is_honest new → meaning.is_store_open old → meaning.is_store_open new ⊎ meaning.has_cause old new
    -- After Memory a live store stays live, or there was no memory to ask it.
    pub spares : meaning.is_honest new → result ≡ Err Memory → meaning.is_store_open old → meaning.is_store_open new ⊎ IsTrue (meaning.is_unsure new)
    -- Disk has a cause. A cause of a later call is also a cause since this one.
    pub cause : meaning.is_honest new → result ≡ Err Disk → meaning.has_cause old new
    pub since : meaning.is_honest new → (later : K) → meaning.has_cause new later → meaning.has_cause old later
    -- What a stop may leave stays the same for a closed keep, and for a store that has shut itself.
    pub stays : IsTrue (meaning.is_closed old) → (cs : List Content) → meaning.leaves old cs → meaning.leaves new cs
    pub shut : meaning.is_honest new → ¬ (meaning.is_store_open old) → (cs : List Content) → meaning.leaves old cs → meaning.leaves new cs

  -- A reading call keeps the content, and a stop leaves that content.
  pub record Keeps (meaning : Meaning K) (old new : K) : Type 0 where
    pub content : (c : Content) → meaning.holds old c → meaning.holds new c
    pub crash : meaning.is_store_open old → (c : Content) → meaning.holds old c → meaning.leaves new (c ∷ [])

  -- The effect of each reading call, whatever it reads: that of any call; it keeps the content, and finds no damage in rows that keep the
  -- rules.
  pub record IsReading {X : Type 0} (meaning : Meaning K) (old new : K) (result : Result X KeepFault) : Type 0 where
    pub goes : CallEffect meaning old new result
    pub keeps : meaning.is_honest new → Keeps meaning old new
    pub whole : meaning.is_honest new → (c : Content) → meaning.holds old c → ContentKeepsRules c → result ≢ Err Damaged

-- Once a call has returned, whatever it answered, a live store stays live, and a stop leaves exactly the content that is held; or the store
-- met a cause of Disk.
abbrev pub Settles : {K : Type 0} → Meaning K → K → K → Type 0
Settles meaning old new = meaning.is_honest new → meaning.is_store_open old → (c : Content) → meaning.holds new c → (meaning.is_store_open new × meaning.leaves new (c ∷ [])) ⊎ meaning.has_cause old new

-- Nothing changed: a live store stays live and holds the same content, and a stop leaves exactly that; or there was no memory to ask it.
abbrev pub IsSpared : {K : Type 0} → Meaning K → K → K → Type 0
IsSpared meaning old new = OverLive meaning old new (λ c. (meaning.is_store_open new × meaning.holds new c × meaning.leaves new (c ∷ [])) ⊎ IsTrue (meaning.is_unsure new))

-- The call finds no damage in rows that keep the rules.
abbrev pub FindsNoDamage : {K X : Type 0} → Meaning K → (old new : K) → Result X KeepFault → Type 0
FindsNoDamage meaning old new result = OverContent meaning old new (λ c. ContentKeepsRules c → result ≢ Err Damaged)

-- P holds of one of these contents.
abbrev pub IsAmong : (Content → Type 0) → List Content → Type 0
IsAmong P [] = ⊥
IsAmong P (c ∷ cs) = P c ⊎ IsAmong P cs

-- If P holds of one of some contents, it holds of one of more.
pub among-more : (P : Content → Type 0) (cs more : List Content) → IsAmong P cs → IsAmong P (cs ++ more)
among-more P [] more h = absurd h
among-more P (c ∷ cs) more (inl h) = inl h
among-more P (c ∷ cs) more (inr h) = inr (among-more P cs more h)
