-- The damage that a server knows of.
use Rattle.std.proofs.Common.{◌≡◌, ◌⊎◌, ℕ, List, [], Option, None, Some, Contains, sym, subst, inl, inr, arith}
use Rattle.std.specs.Prelude.{⊤, IfSome}
use Rattle.std.specs.Global.{Vec}
use Rattle.toll_keep.specs.declared.keep_fault.KeepFault.{KeepFault}
use Rattle.toll_keep.specs.declared.keep_fault.KeepFault.TheVariants.{Memory, Disk, Damaged, Closed}
use Rattle.toll_service.specs.Common.{Bytes, Meaning, Listener, Owners, Plant, Poll, ImportState}
use Rattle.toll_service.specs.Damages.{IsNoted, StaysWhere}
use Rattle.toll_service.specs.Listeners.{IsTurnFault, ReportsFault}
use Rattle.toll_service.specs.Parties.{IsBy}
use Rattle.toll_service.specs.declared.damage.Damage.{Damage}
use Rattle.toll_service.specs.declared.party.Party.TheVariants.{Owner}
use Rattle.toll_wire.specs.Steps.{IsFaultMet}

-- A turn of the plant that met damage reports it.
pub reports_damage : {K : Type 0} (meaning : Meaning K) (old new : K) (listener : Listener) (poll : Poll ImportState) (met : Option KeepFault)
    → IfSome met (IsTurnFault meaning old new listener poll) → listener ≡ Plant → met ≡ Some Damaged → ReportsFault Damaged poll
reports_damage meaning old new Plant poll (Some Damaged) (inl never) is so = absurd (cc never)
reports_damage meaning old new Plant poll (Some Damaged) (inr reported) is so = reported
reports_damage meaning old new Plant poll (Some Memory) turn is so = absurd (cc so)
reports_damage meaning old new Plant poll (Some Disk) turn is so = absurd (cc so)
reports_damage meaning old new Plant poll (Some Closed) turn is so = absurd (cc so)
reports_damage meaning old new Plant poll None turn is so = absurd (cc so)
reports_damage meaning old new Owners poll met turn is so = absurd (cc is)

none_in_empty : {X : Type 0} (xs : List X) (x : X) → xs ≡ [] → Contains xs x → ⊥
none_in_empty {X} xs x empty there = let (k, less, is) = subst (λ ys. Contains ys x) empty there in absurd (omega (arith, less))

-- An owner's turn that met damage met it in a call.
pub meets_damage : {K : Type 0} (meaning : Meaning K) (old new : K) (listener : Listener) (poll : Poll ImportState) (met : Option KeepFault)
    → IfSome met (IsTurnFault meaning old new listener poll) → listener ≡ Owners → met ≡ Some Damaged → IsFaultMet meaning old new Damaged
meets_damage meaning old new Owners poll (Some Damaged) turn is so = turn
meets_damage meaning old new Owners poll (Some Memory) turn is so = absurd (cc so)
meets_damage meaning old new Owners poll (Some Disk) turn is so = absurd (cc so)
meets_damage meaning old new Owners poll (Some Closed) turn is so = absurd (cc so)
meets_damage meaning old new Owners poll None turn is so = absurd (cc so)
meets_damage meaning old new Plant poll met turn is so = absurd (cc is)

module _ (IsFound : Bytes → Type 0) (IsMet : Type 0) where
  -- Nothing is noted.
  pub noted_none : (known : Damage) (listener : Listener) (requested : Bytes) → IsNoted IsFound ⊤ IsMet known known listener requested
  noted_none known listener requested = record { owners = λ owner there. inl (there, tt); calls = λ call there. inl (there, tt) }

  -- The owner is noted because damage was found in its rows.
  pub noted_owner : (before behind : Damage) (listener : Listener) (requested owner : Bytes) → listener ≡ Owners → IsFound owner → behind.calls ≡ before.calls
      → ((name : Bytes) → Contains behind.owners.items name → Contains before.owners.items name ⊎ ((name ≡ owner) × IsBy listener requested (Owner name)))
      → IsNoted IsFound ⊤ IsMet before behind listener requested
  noted_owner before behind listener requested owner is found same noted = record {
    owners = λ name there. elim (noted name there) [
      | inl known ↦ inl (known, tt)
      | inr (its, by) ↦ inr (is, by, subst IsFound (sym its) found)
    ];
    calls = λ call there. inl (subst (λ calls. Contains calls.items call) same there, tt);
  }

  -- The call is noted because it met damage.
  pub noted_call : (before behind : Damage) (listener : Listener) (requested : Bytes) → listener ≡ Plant → IsMet
      → behind.owners ≡ before.owners → ((call : Vec ℕ) → Contains behind.calls.items call → Contains before.calls.items call ⊎ (call.items ≡ requested))
      → IsNoted IsFound ⊤ IsMet before behind listener requested
  noted_call before behind listener requested is met same noted = record {
    owners = λ owner there. inl (subst (λ owners. Contains owners.items owner) same there, tt);
    calls = λ call there. elim (noted call there) [ inl known ↦ inl (known, tt) | inr its ↦ inr (is, its, met) ];
  }

-- Noting after a step that kept or forgot what is known, if what was found or met is so in another sense too.
pub noted_behind : (IsFound IsFoundSo : Bytes → Type 0) (IsSo IsMet IsMetSo : Type 0) (before middle behind : Damage) (listener : Listener) (requested : Bytes)
    → StaysWhere IsSo before middle → (listener ≡ Owners → (owner : Bytes) → IsFound owner → IsFoundSo owner) → (listener ≡ Plant → IsMet → IsMetSo)
    → IsNoted IsFound ⊤ IsMet middle behind listener requested → IsNoted IsFoundSo IsSo IsMetSo before behind listener requested
noted_behind IsFound IsFoundSo IsSo IsMet IsMetSo before middle behind listener requested (inl (same, so)) finds meets noted = record {
  owners = λ owner there. elim (noted.owners owner there) [
    | inl known ↦ inl (subst (λ d. Contains d.owners.items owner) same known.0, so)
    | inr (is, by, found) ↦ inr (is, by, finds is owner found)
  ];
  calls = λ call there. elim (noted.calls call there) [
    | inl known ↦ inl (subst (λ d. Contains d.calls.items call) same known.0, so)
    | inr (is, its, met) ↦ inr (is, its, meets is met)
  ];
}
noted_behind IsFound IsFoundSo IsSo IsMet IsMetSo before middle behind listener requested (inr (owners, calls)) finds meets noted = record {
  owners = λ owner there. elim (noted.owners owner there) [
    | inl known ↦ absurd (none_in_empty middle.owners.items owner owners known.0)
    | inr (is, by, found) ↦ inr (is, by, finds is owner found)
  ];
  calls = λ call there. elim (noted.calls call there) [
    | inl known ↦ absurd (none_in_empty middle.calls.items call calls known.0)
    | inr (is, its, met) ↦ inr (is, its, meets is met)
  ];
}
