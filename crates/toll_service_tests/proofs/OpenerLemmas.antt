-- What a fresh service does for its first client, if its opener finds the files written at each look.
use Rattle.std.proofs.Common.{◌≡◌, ◌∙◌, ◌<◌, false, true, List, [], Contains, Option, None, Some, Result, Ok, Err, Bool, ap, arith, inl, inr, subst}
use Rattle.std.specs.Prelude.{option_map}
use Rattle.std.specs.List.{list_any}
use Rattle.toll_base.specs.Bytes.{Bytes}
use Rattle.toll_files.specs.FileChanges.{AreFound}
use Rattle.toll_files.specs.declared.file_stamps.LeftFiles.{LeftFiles}
use Rattle.toll_files.specs.declared.office_fault.OfficeFault.{OfficeFault}
use Rattle.toll_keep.specs.Meaning.{Meaning}
use Rattle.toll_keep.specs.declared.keep_fault.KeepFault.TheVariants.{Damaged}
use Rattle.toll_plant.specs.ImportStates.{ImportState}
use Rattle.toll_server.specs.declared.listener.Listener.{Listener}
use Rattle.toll_server.specs.declared.listener.Listener.TheVariants.{Owners, Plant}
use Rattle.toll_server.specs.declared.poll.Poll.{Poll}
use Rattle.toll_service.specs.Damages.{IsKnown, KnowsNothing, is_call, is_owner}
use Rattle.toll_service.specs.FileServing.{Answers, IsFresh, logged_by, openings_of}
use Rattle.toll_service.specs.Openings.{Openings, one_refused_more}
use Rattle.toll_service.specs.Sessions.{AreAsLeft}
use Rattle.toll_service.specs.declared.damage.Damage.{Damage}
use Rattle.toll_service.specs.declared.office_service.OfficeService.{OfficeService}
use Rattle.toll_service_tests.specs.Openers.{IsAnsweredAnew, damaged_owners}
use Rattle.toll_wire.specs.Steps.{IsFaultMet}

none_in_empty : {X : Type 0} (xs : List X) (x : X) → xs ≡ [] → Contains xs x → ⊥
none_in_empty {X} xs x empty there = let (k, less, is) = subst (λ ys. Contains ys x) empty there in absurd (omega (arith, less))

none_of_empty : {X : Type 0} (is_so : X → Bool) (xs : List X) → xs ≡ [] → list_any is_so xs ≡ true → ⊥
none_of_empty is_so xs empty some = let none : false ≡ true = subst (λ ys. list_any is_so ys ≡ true) empty some in absurd (cc none)

nothing_is_known : (known : Damage) (listener : Listener) (requested : Bytes) → KnowsNothing known → IsKnown known listener requested → ⊥
nothing_is_known known Owners requested none (owner, by, some) = none_of_empty (is_owner owner) known.owners.items none.0 some
nothing_is_known known Plant requested none some = none_of_empty (is_call requested) known.calls.items none.1 some

module _ {K O : Type 0} (meaning : Meaning K) (is_opened : K → Type 0) (is_found : LeftFiles → Result Bool OfficeFault → Type 0) (has_damaged : K → Bytes → Type 0)
    (openings : O → Option Openings) (before : Option Openings) (old new : OfficeService K O) (listener : Listener) (requested : Bytes) (poll : Poll ImportState)
    (written : (left : LeftFiles) (found : Result Bool OfficeFault) → is_found left found → found ≡ Ok false)
    (fresh : IsFresh meaning is_opened openings before old) (answers : Answers meaning is_opened is_found has_damaged openings old listener requested poll new) where
  found_written : (left : Option LeftFiles) (found : Result Bool OfficeFault) → AreFound is_found left found → found ≡ Ok false
  found_written None found there = absurd there
  found_written (Some left) found there = written left found there

  never_as_left : AreAsLeft is_found old.session → ⊥
  never_as_left (inl locked) = let more = fresh.lock.0 locked in let none = fresh.imports in omega (arith, more, none)
  never_as_left (inr found) = absurd (cc (found_written old.session.left (Ok true) found))

  few : old.session.openings < 2
  few = elim (fresh.begins) [
    | inl (unopened, tally) ↦ let none = unopened.1 in omega (arith, none)
    | inr (first, last, opened, read, left, one, tally) ↦ omega (arith, one)
  ]

  pub answered_anew : (was : Openings) → openings_of openings old ≡ Some was
      → IsAnsweredAnew meaning is_opened (openings_of openings new) (logged_by new) listener requested poll
  answered_anew was is = elim answers [
    | inl (inl (one, noted)) ↦ elim (one.begins) [
      | inl (there, same, still) ↦ absurd (never_as_left still)
      | inr (opened, more) ↦ inl (record { first = one.first; last = one.taken.last; opened = opened; done = one.taken.comes })
    ]
    | inl (inr away) ↦ elim (away.cause) [
      | inl (inl (inl refused), logged) ↦
          inr (inl (away.fault, away.reported, (was, refused ∙ ap (option_map (one_refused_more away.fault)) is), logged))
      | inl (inl (inr (many, memory, none)), logged) ↦ absurd (omega (arith, few, many))
      | inl (inr (found, none), logged) ↦ absurd (cc (found_written old.session.left (Err away.fault) found))
      | inr (known, so) ↦ absurd (nothing_is_known old.session.damage listener requested fresh.unknown known)
    ]
    | inr unheard ↦ inr (inr (unheard.silent, elim (unheard.cause) [ inl (plant, nothing, same) ↦ inl (plant, nothing) | inr lacks ↦ inr lacks ]))
  ]

  pub none_damaged : ((first last : K) → is_opened first → IsFaultMet meaning first last Damaged → ⊥) → (owner : Bytes) → Contains (damaged_owners new) owner → ⊥
  none_damaged sound owner there = elim answers [
    | inl (inl (one, noted)) ↦ elim (noted.owners owner there) [
      | inl (known, so) ↦ none_in_empty (damaged_owners old) owner fresh.unknown.0 known
      | inr (owners, claimed, found) ↦ elim (found.begins) [
        | inl (there, same, still) ↦ absurd (never_as_left still)
        | inr (opened, more) ↦ sound found.first found.last opened found.met
      ]
    ]
    | inl (inr away) ↦ elim (away.known) [
      | inl (same, so) ↦ none_in_empty (damaged_owners new) owner (ap (λ d. d.owners.items) same ∙ fresh.unknown.0) there
      | inr forgotten ↦ none_in_empty (damaged_owners new) owner forgotten.0 there
    ]
    | inr unheard ↦ none_in_empty (damaged_owners new) owner (ap (λ s. s.damage.owners.items) unheard.same_session ∙ fresh.unknown.0) there
  ]
