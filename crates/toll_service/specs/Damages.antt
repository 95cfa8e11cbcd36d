-- The damage that a server knows of.
use Rattle.std.specs.Str.{bytes_eq}
use Rattle.std.specs.List.{list_any}
use Rattle.std.specs.Prelude.{◌≡◌, ◌⊎◌, ℕ, Bool, true, [], Contains, ⊤}
use Rattle.std.specs.Global.{Vec}
use Rattle.toll_base.specs.Bytes.{same_bytes}
use Rattle.toll_keep.specs.declared.keep_fault.KeepFault.TheVariants.{Damaged}
use Rattle.toll_service.specs.Common.{Bytes, Meaning, Listener, Owners, Plant}
use Rattle.toll_service.specs.Parties.{IsBy}
use Rattle.toll_service.specs.declared.damage.Damage.{Damage}
use Rattle.toll_service.specs.declared.party.Party.TheVariants.{Owner}
use Rattle.toll_wire.specs.Steps.{IsFaultMet}

-- whether the name is this owner's
abbrev pub is_owner : Bytes → Bytes → Bool
is_owner owner name = same_bytes name owner

-- whether the call has these bytes
abbrev pub is_call : Bytes → Vec ℕ → Bool
is_call requested call = bytes_eq call.items requested

-- A request claims an owner whose rows are known to be damaged, or a call is one that met damage.
abbrev pub IsKnown : Damage → Listener → Bytes → Type 0
IsKnown known Owners requested = (owner : Bytes) × IsBy Owners requested (Owner owner) × (list_any (is_owner owner) known.owners.items ≡ true)
IsKnown known Plant requested = list_any (is_call requested) known.calls.items ≡ true

-- No damage is known.
abbrev pub KnowsNothing : Damage → Type 0
KnowsNothing known = (known.owners.items ≡ []) × (known.calls.items ≡ [])

-- What is known is unchanged and IsSo holds, or all of it is forgotten.
abbrev pub StaysWhere : (IsSo : Type 0) → (before behind : Damage) → Type 0
StaysWhere IsSo before behind = ((behind ≡ before) × IsSo) ⊎ KnowsNothing behind

-- What is known is unchanged, or all of it is forgotten.
abbrev pub KnowsNoMore : (before behind : Damage) → Type 0
KnowsNoMore = StaysWhere ⊤

-- An office at hand met damage in this owner's rows.
pub record HasFoundDamage {K : Type 0} (meaning : Meaning K) (has_damaged : K → Bytes → Type 0) (is_at_hand : K → Type 0) (owner : Bytes) : Type 0 where
  pub first : K
  pub last : K
  pub begins : is_at_hand first
  pub met : IsFaultMet meaning first last Damaged
  pub found : has_damaged last owner

-- All known damage was known before, and then IsSo holds. An owner may be added if this request claims it, and IsFound holds of it. A call of
-- the plant may be added if it is this one, and IsMet holds.
pub record IsNoted (IsFound : Bytes → Type 0) (IsSo IsMet : Type 0) (before behind : Damage) (listener : Listener) (requested : Bytes) : Type 0 where
  pub owners : (owner : Bytes) → Contains behind.owners.items owner
      → (Contains before.owners.items owner × IsSo) ⊎ ((listener ≡ Owners) × IsBy listener requested (Owner owner) × IsFound owner)
  pub calls : (call : Vec ℕ) → Contains behind.calls.items call → (Contains before.calls.items call × IsSo)
      ⊎ ((listener ≡ Plant) × (call.items ≡ requested) × IsMet)
