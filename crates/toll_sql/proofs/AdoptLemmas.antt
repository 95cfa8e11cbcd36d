-- Tables that are ours already, and the version that is read.
use Rattle.std.proofs.Common.{◌≡◌, ◌≢◌, ◌⊎◌, inl, inr, ℕ, false, List, ◌++◌, slice_get, None, Some, Ok, Result, Option, IfOk, IfSome, OnOk, IsTrue, sym, ap, subst, ◌∙◌}
use Rattle.toll_sql.proofs.Common.{survives_weaker, Database, Schema, Table, State, HasCleanDisk, Survives, Trees, Error, Content, IsQuerying, AreFirst, HasVersion, HasVersionRow, first_version, meta_rows, Holds, version, Adopts, FindsVersion, HoldsEither, IsForeign, IsUnlike, LeavesRaised, TakesOver, without_limit, HasOurs, made_all, table_of, Voids, OpenFault, IsOurs}
use Rattle.toll_sql.specs.declared.open_fault.OpenFault.TheVariants.{Disk, Damaged, NotOurs}
use Rattle.toll_sql.proofs.MetaLemmas.{shows_it, shows_neither}
use Rattle.toll_sql.proofs.OverLemmas.{opened_ok, open_refused}

-- The tables of version 1 are one fewer.
pub ours_is_not_first : {schema : Schema} → HasOurs schema → ¬ AreFirst schema
ours_is_not_first has first =
    let none : None ≡ slice_get (made_all.tables ++ has.tables.0) 13 = ap (λ (tables : List Table). slice_get tables 13) (ap (λ (s : Schema). s.tables) (sym first) ∙ has.tables.1) in
    absurd (let no : None ≡ Some (table_of Voids) = none in cc)

-- The fault for tables that aren't those of the reported version: Damaged if it is this other version, otherwise NotOurs.
pub record IsMisfit (reported : Option ℕ) (other : ℕ) (fault : OpenFault) : Type 0 where
  pub damaged : fault ≡ Damaged → reported ≡ Some other
  pub foreign : fault ≡ NotOurs → reported ≢ Some other
  pub known : (fault ≡ Damaged) ⊎ (fault ≡ NotOurs)

pub no_disk : (fault : OpenFault) → (fault ≡ Damaged) ⊎ (fault ≡ NotOurs) → ¬ (fault ≡ Disk)
no_disk fault known is = elim known [ inl d ↦ (let x : Damaged ≡ Disk = sym d ∙ is in absurd cc) | inr n ↦ (let x : NotOurs ≡ Disk = sym n ∙ is in absurd cc) ]

pub version_found : (db : Database) (reported : Option ℕ) (r : Result (Option ℕ) Error) → r ≡ Ok reported → IfOk r (FindsVersion db) → FindsVersion db reported
version_found db reported r is h = subst (λ (x : Result (Option ℕ) Error). IfOk x (FindsVersion db)) is h

pub version_reported : (db : Database) (n : ℕ) (reported : Option ℕ) (r : Result (Option ℕ) Error) → r ≡ Ok reported → reported ≡ Some n → IfOk r (λ v. IfSome v (λ n. HasVersionRow n (meta_rows db.trees))) → HasVersionRow n (meta_rows db.trees)
version_reported db n reported r is so h =
    subst (λ (v : Option ℕ). IfSome v (λ n. HasVersionRow n (meta_rows db.trees))) so (subst (λ (x : Result (Option ℕ) Error). IfOk x (λ v. IfSome v (λ n. HasVersionRow n (meta_rows db.trees)))) is h)

-- A call on a store without a limit of steps starts as one whose limit was removed.
pub as_unlimited : (old new : State) (P : Trees → Type 0) → old.step_limit ≡ None → Survives old new P → Survives (without_limit old) new P
as_unlimited old new P free s = record { clean = s.clean; shield = s.shield; counts = s.counts; limit = s.limit ∙ free; closes = s.closes; crash = s.crash }

-- The tables are refused, because they aren't those of their version.
pub turned_down : (old new : State) (fault : OpenFault) → TakesOver (LeavesRaised old) old new (open_refused (Unit {0}) fault) → (HasCleanDisk new → fault ≡ Damaged → IsUnlike version HasOurs old.now ⊎ IsUnlike first_version AreFirst old.now)
    → (HasCleanDisk new → fault ≡ NotOurs → IsForeign old.now) → (HasCleanDisk new → (c : Content) → ¬ (HoldsEither old c)) → Adopts old new (open_refused (Unit {0}) fault)
turned_down old new fault over damaged foreign unheld = record {
  over = over;
  known_as = λ _. tt;
  damaged = λ clean same. damaged clean (let it : fault ≡ Damaged = cc in it);
  foreign = λ clean same. inr (foreign clean (let it : fault ≡ NotOurs = cc in it));
  ours = λ _ _. tt;
  stays = λ _ _. tt;
  raised = λ _ _. tt;
  holds = λ _ _ _. tt;
  known = λ clean _ c h. absurd (unheld clean c h);
}

module _ (old new : State) (auto : old.in_transaction ≡ false) (settled : IsTrue old.is_open → old.now ≡ old.committed) (has : HasOurs old.now.schema) (free : old.step_limit ≡ None) (reported : Option ℕ) (r : Result (Option ℕ) Error) (is : r ≡ Ok reported)
    (asking : IsQuerying old new r) (found : HasCleanDisk new → IfOk r (FindsVersion old.now)) where
  lifted : Survives (without_limit old) new (LeavesRaised old)
  lifted = as_unlimited old new (LeavesRaised old) free (survives_weaker old new _ (LeavesRaised old) (λ _ _ h. absurd (h has settled)) asking.asks.survives)

  -- Another version was reported.
  pub other_version : reported ≢ Some version → (HasCleanDisk new → (n : ℕ) → HasVersion n old.now.trees → IfOk r (λ v. v ≡ Some n)) → (fault : OpenFault) → IsMisfit reported first_version fault → Adopts old new (open_refused (Unit {0}) fault)
  other_version other tells fault m =
      let a = asking.asks in
      let over : TakesOver (LeavesRaised old) old new (open_refused (Unit {0}) fault) = record {
        unlimited = a.survives.limit ∙ free;
        autocommit = a.mode;
        ended = tt;
        live = a.live;
        shown = λ _. tt;
        refused = λ clean live. a.same clean has live (settled (a.live clean live));
        cause = λ _ same. absurd (no_disk fault m.known (let it : fault ≡ Disk = cc in it));
        survives = lifted;
      } in
      turned_down old new fault over
      (λ clean it. inr (record { tables = ours_is_not_first has; reported = shows_it old.now reported (version_found old.now reported r is (found clean)) first_version (m.damaged it) }))
      (λ clean it. inl (shows_neither old.now reported (version_found old.now reported r is (found clean)) (m.foreign it) other))
      (λ clean c h. elim h [
        | inl held ↦ other (subst (λ (x : Result (Option ℕ) Error). IfOk x (λ v. v ≡ Some version)) is (tells clean version held.rows.meta))
        | inr first ↦ ours_is_not_first has first.first.schema
      ])

  -- This version was reported.
  pub this_version : reported ≡ Some version → (HasCleanDisk new → IfOk r (λ v. IfSome v (λ n. HasVersionRow n (meta_rows old.now.trees)))) → Adopts old new opened_ok
  this_version so tells =
      let a = asking.asks in
      let live = λ (clean : HasCleanDisk new). (let it : IsTrue new.is_open = subst (λ (x : Result (Option ℕ) Error). OnOk x (IsTrue new.is_open)) is (a.shown clean) in it) in
      let idle = λ (clean : HasCleanDisk new). (let it : old.now ≡ old.committed = settled (a.live clean (live clean)) in it) in
      let same = λ (clean : HasCleanDisk new). (let it : (new.now ≡ old.now) × (new.committed ≡ old.committed) = a.same clean has (live clean) (idle clean) in it) in
      let it_tells = λ (clean : HasCleanDisk new). version_reported old.now version reported r is so (tells clean) in
      record {
        over = record {
          unlimited = a.survives.limit ∙ free;
          autocommit = a.mode;
          ended = a.mode auto;
          live = a.live;
          shown = λ clean. (live clean, (same clean).0 ∙ idle clean ∙ sym (same clean).1);
          refused = λ _ _. tt;
          cause = λ _ no. absurd cc;
          survives = lifted;
        };
        known_as = λ clean. inl (record { tables = has; reported = it_tells clean });
        ours = λ clean h. elim h [
          | inl own ↦ (subst IsOurs (sym (same clean).0) own, subst (λ (db : Database). HasVersionRow version (meta_rows db.trees)) (sym (same clean).0) (it_tells clean))
          | inr first ↦ absurd (ours_is_not_first has first.schema)
        ];
        stays = λ clean _. (same clean).0;
        raised = λ _ first. absurd (ours_is_not_first has first.schema);
        holds = λ clean c h. elim h [
          | inl held ↦ record {
            ours = subst IsOurs (sym (same clean).0) held.ours;
            idle = (same clean).0 ∙ idle clean ∙ sym (same clean).1;
            rows = subst (λ (db : Database). Holds db.trees c) (sym (same clean).0) held.rows;
          }
          | inr first ↦ absurd (ours_is_not_first has first.first.schema)
        ];
        known = λ _ _ _ _. (λ no. absurd cc, λ no. absurd cc);
        damaged = λ _ no. absurd cc;
        foreign = λ _ no. absurd cc;
      }

-- The store that was handed over may have had a limit of steps.
either_without_limit : (s : State) (c : Content) → HoldsEither s c → HoldsEither (without_limit s) c
either_without_limit s c (inl h) = inl (record { ours = h.ours; idle = h.idle; rows = h.rows })
either_without_limit s c (inr h) = inr (record { first = h.first; idle = h.idle; rows = h.rows })

adopted_leaves : (s : State) (db : Trees) → LeavesRaised (without_limit s) db → LeavesRaised s db
adopted_leaves s db h = record { first = h.first; rows = λ c held. h.rows c (either_without_limit s c held) }

pub adopted : {X : Type 0} (old new : State) (r : Result X OpenFault) → Adopts (without_limit old) new r → Adopts old new r
adopted old new r h = record {
  over = record {
    unlimited = h.over.unlimited;
    autocommit = h.over.autocommit;
    ended = h.over.ended;
    live = h.over.live;
    shown = h.over.shown;
    refused = h.over.refused;
    cause = h.over.cause;
    survives = survives_weaker (without_limit old) new _ (LeavesRaised old) (λ _. adopted_leaves old) h.over.survives;
  };
  known_as = h.known_as;
  ours = h.ours;
  stays = h.stays;
  raised = λ clean first. h.raised clean first;
  holds = λ clean c held. h.holds clean c (either_without_limit old c held);
  known = λ clean auto c held. h.known clean auto c (either_without_limit old c held);
  damaged = h.damaged;
  foreign = h.foreign;
}
