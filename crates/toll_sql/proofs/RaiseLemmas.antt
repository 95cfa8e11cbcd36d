-- Tables of version 1 are found and raised to this version.
use Rattle.std.proofs.Common.{◌≡◌, ◌≢◌, ◌⊎◌, inl, inr, ℕ, None, Some, Ok, Err, Result, Option, IfOk, IfSome, IsTrue, OnOk, false, arith, refl, sym, subst, ◌∙◌}
use Rattle.toll_sql.proofs.Common.{on_ok_weaker, on_err_weaker, survives_then, survives_weaker, Database, State, HasCleanDisk, IsUnchanged, Survives, Trees, Error, SqliteFailure, Content, IsUnreadBy, meta_text, Reason, is_disk_fault, IsShapedAs, IsWholeOrNothing, LeavesMade, begin, AreFirst, HasVersion, IsFirst, Raised, HasVersionRow, first_ours, first_version, meta_rows, Holds, version, Adopts, Brings, FindsVersion, HoldsEither, LeavesTables, IsUnreadFor, LeavesRaised, TakesOver, without_limit, HasOurs, HoldsIn, OpenFault}
use Rattle.sqlite.specs.declared.error.ErrorCode.TheVariants as code
use Rattle.toll_sql.specs.declared.open_fault.OpenFault.TheVariants.{Disk, Damaged, NotOurs}
use Rattle.toll_sql.proofs.AdoptLemmas.{IsMisfit, ours_is_not_first, as_unlimited, version_found, no_disk, version_reported, turned_down}
use Rattle.toll_sql.proofs.CauseLemmas.{reason_before}
use Rattle.toll_sql.proofs.MetaLemmas.{shows_it, shows_neither}
use Rattle.toll_sql.proofs.OverLemmas.{IsOpenFaultOf, disk_of_open_fault, opened_ok, failed_with, made_ok, not_damaged, not_foreign, open_refused}
use Rattle.toll_sql.proofs.SoFar.{when_ok}

module _ (Found : Database → Type 0) (Brought : Database → Database → Type 0) (Before : State → Type 0) (old new : State) (start : Found old.now → old.step_limit ≡ None → Before (begin old)) where
  abbrev RaiseLeaves : Trees → Type 0
  RaiseLeaves = LeavesMade (Found old.now × (old.step_limit ≡ None)) (Brought old.now)

  raise_leaves : (db : Trees) → LeavesMade (Before (begin old)) (Brought old.now) db → RaiseLeaves db
  raise_leaves db h found = h (start found.0 found.1)

  pub all_brought : IsWholeOrNothing Before (Brought old.now) old new made_ok → Brings Found Brought old new opened_ok
  all_brought w = record {
    ended = w.ended;
    live = w.live;
    all = λ clean found free. w.all clean (start found free);
    shown = w.shown;
    none = λ _ _. tt;
    cause = λ _ is. absurd cc;
    known = (λ is. absurd cc, λ is. absurd cc);
    survives = survives_weaker old new _ RaiseLeaves (λ _. raise_leaves) w.survives;
  }

  pub none_brought : (e : Error) (fault : OpenFault) → IsOpenFaultOf e fault → IsWholeOrNothing Before (Brought old.now) old new (failed_with (Unit {0}) e) → Brings Found Brought old new (open_refused (Unit {0}) fault)
  none_brought e fault reported w = record {
    ended = w.ended;
    live = w.live;
    all = λ _ _ _. tt;
    shown = λ _. tt;
    none = w.none;
    cause = λ clean is. let same : fault ≡ Disk = cc in w.fault clean (disk_of_open_fault e fault reported same);
    known = (λ is. not_foreign e fault reported (let same : fault ≡ NotOurs = cc in same), λ is. not_damaged e fault reported (let same : fault ≡ Damaged = cc in same));
    survives = survives_weaker old new _ RaiseLeaves (λ _. raise_leaves) w.survives;
  }

pub start_first : (s : State) → IsFirst s.now → s.step_limit ≡ None → IsShapedAs first_ours (begin s)
start_first s first free = record { making = record { schema = first.schema; unlimited = free; inside = refl }; shaped = first.shaped }

-- A refusal of the query itself.
left_over : {X : Type 0} (old new : State) (r : Result X Error) → old.step_limit ≡ None → LeavesTables old new r → (fault : OpenFault) → (HasCleanDisk new → fault ≡ Disk → Reason old new) → TakesOver (LeavesRaised old) old new (open_refused (Unit {0}) fault)
left_over old new r free left fault cause = record {
  unlimited = left.survives.limit ∙ free;
  autocommit = λ _. left.ended;
  ended = tt;
  live = left.live;
  shown = λ _. tt;
  refused = left.same;
  cause = λ clean same. cause clean (let it : fault ≡ Disk = cc in it);
  survives = as_unlimited old new (LeavesRaised old) free (survives_weaker old new (λ _. ⊥) (LeavesRaised old) (λ _ _ h. absurd h) left.survives);
}

both_ok : {X E : Type 0} (A B C : Type 0) (r : Result X E) → (A → B → C) → OnOk r A → OnOk r B → OnOk r C
both_ok A B C (Ok x) join a b = join a b
both_ok A B C (Err e) join a b = tt

-- The version was read, and then the tables were raised.
module _ (Found : Database → Type 0) (Brought : Database → Database → Type 0) (old mid new : State) (free : old.step_limit ≡ None) (survives : Survives old mid (λ _. ⊥)) (was_live : HasCleanDisk mid → IsTrue mid.is_open → IsTrue old.is_open)
    (same : HasCleanDisk mid → (mid.now ≡ old.now) × (mid.committed ≡ old.committed)) (first : AreFirst old.now.schema)
    (held : (c : Content) → HoldsEither old c → Found old.now × ((after : Database) → Brought old.now after → Holds after.trees c)) (q : Result (Unit {0}) OpenFault) (brings : Brings Found Brought mid new q) where
  pub late : HasCleanDisk new → HasCleanDisk mid
  late clean = omega (arith, clean, brings.survives.clean)

  raise_now : HasCleanDisk new → mid.now ≡ old.now
  raise_now clean = (same (late clean)).0

  limit : mid.step_limit ≡ None
  limit = survives.limit ∙ free

  pub brought_in : HasCleanDisk new → Found old.now → OnOk q (Brought old.now new.now)
  brought_in clean found = subst (λ d. OnOk q (Brought d new.now)) (raise_now clean) (brings.all clean (subst Found (sym (raise_now clean)) found) limit)

  leaves_raised : HasCleanDisk new → (db : Trees) → LeavesMade (Found mid.now × (mid.step_limit ≡ None)) (Brought mid.now) db → LeavesRaised old db
  leaves_raised clean db h = record {
    first = first;
    rows = λ c has.
        let it = held c has in
        let left = h (subst Found (sym (raise_now clean)) it.0, limit) in
        subst (λ d. Holds d c) (sym left.2) (it.1 left.0 (subst (λ d. Brought d left.0) (raise_now clean) left.1));
  }

  pub brought_over : TakesOver (LeavesRaised old) old new q
  brought_over = record {
    unlimited = brings.survives.limit ∙ limit;
    autocommit = λ _. brings.ended;
    ended = when_ok _ q brings.ended;
    live = λ clean live. was_live (late clean) (brings.live clean live);
    shown = brings.shown;
    refused = λ clean live. on_err_weaker q (λ h. (h.0 ∙ raise_now clean, h.1 ∙ (same (late clean)).1)) (brings.none clean live);
    cause = λ clean disk. reason_before (without_limit old) mid new (λ _. ⊥) _ (as_unlimited old mid (λ _. ⊥) free survives) brings.survives clean (brings.cause clean disk);
    survives = survives_then (without_limit old) mid new (λ _. ⊥) _ (LeavesRaised old) (λ _ _ h. absurd h) leaves_raised (as_unlimited old mid (λ _. ⊥) free survives) brings.survives;
  }

module _ (old mid : State) (has : AreFirst old.now.schema) (free : old.step_limit ≡ None) (reported : Option ℕ) (r : Result (Option ℕ) Error) (is : r ≡ Ok reported) (left : LeavesTables old mid r) where
  -- Another version was reported.
  pub raise_other_first : reported ≢ Some first_version → (HasCleanDisk mid → (n : ℕ) → HasVersion n old.now.trees → IfOk r (λ v. v ≡ Some n)) → (HasCleanDisk mid → IfOk r (FindsVersion old.now)) → (fault : OpenFault) → IsMisfit reported version fault → Adopts old mid (open_refused (Unit {0}) fault)
  raise_other_first other tells found fault m =
      turned_down old mid fault (left_over old mid r free left fault (λ _ disk. absurd (no_disk fault m.known disk)))
      (λ clean it. inl (record { tables = λ this. ours_is_not_first this has; reported = shows_it old.now reported (version_found old.now reported r is (found clean)) version (m.damaged it) }))
      (λ clean it. inl (shows_neither old.now reported (version_found old.now reported r is (found clean)) other (m.foreign it)))
      (λ clean c h. elim h [
        | inl held ↦ ours_is_not_first held.ours.schema has
        | inr first ↦ other (subst (λ (x : Result (Option ℕ) Error). IfOk x (λ v. v ≡ Some first_version)) is (tells clean first_version first.rows.meta))
      ])

  module _ (so : reported ≡ Some first_version) (tells : HasCleanDisk mid → IfOk r (λ v. IfSome v (λ n. HasVersionRow n (meta_rows old.now.trees)))) (unchanged : HasCleanDisk mid → OnOk r (IsUnchanged old mid)) (new : State) (q : Result (Unit {0}) OpenFault) (raises : Brings IsFirst Raised mid new q) where
    raise_same : HasCleanDisk mid → (mid.now ≡ old.now) × (mid.committed ≡ old.committed)
    raise_same clean = let it = subst (λ (x : Result (Option ℕ) Error). OnOk x (IsUnchanged old mid)) is (unchanged clean) in (it.0.now_is, it.0.committed_is)

    content_held : (c : Content) → HoldsEither old c → IsFirst old.now × ((after : Database) → Raised old.now after → Holds after.trees c)
    content_held c (inl this) = absurd (ours_is_not_first this.ours.schema has)
    content_held c (inr first) = (first.first, λ after it. it.rows c first.rows)

    raised_in : HasCleanDisk new → IsFirst old.now → OnOk q (Raised old.now new.now)
    raised_in = brought_in IsFirst Raised old mid new free left.survives left.live raise_same has content_held q raises

    raise_late_first : HasCleanDisk new → HasCleanDisk mid
    raise_late_first = late IsFirst Raised old mid new free left.survives left.live raise_same has content_held q raises

    told_first : HasCleanDisk new → HasVersionRow first_version (meta_rows old.now.trees)
    told_first clean = version_reported old.now first_version reported r is so (tells (raise_late_first clean))

    pub all_adopted : Adopts old new q
    all_adopted = record {
      over = brought_over IsFirst Raised old mid new free left.survives left.live raise_same has content_held q raises;
      known_as = λ clean. when_ok _ q (inr (record { tables = has; reported = told_first clean }));
      ours = λ clean h. elim h [ inl ours ↦ absurd (ours_is_not_first ours.schema has) | inr first ↦ on_ok_weaker q (λ it. (it.ours, it.reported)) (raised_in clean first) ];
      stays = λ _ ours. absurd (ours_is_not_first ours has);
      raised = λ clean first. on_ok_weaker q (λ it. it.alone) (raised_in clean first);
      holds = λ clean c h. elim h [
        | inl content_held ↦ absurd (ours_is_not_first content_held.ours.schema has)
        | inr content_held ↦ both_ok _ _ (HoldsIn new c) q (λ it live. record { ours = it.ours; idle = live.1; rows = it.rows c content_held.rows }) (raised_in clean content_held.first) (raises.shown clean)
      ];
      known = λ _ _ c _. raises.known;
      damaged = λ _ no. absurd (raises.known.1 no);
      foreign = λ _ no. absurd (raises.known.0 no);
    }

-- Tables of neither version.
module _ (old new : State) (free : old.step_limit ≡ None) (not_ours : ¬ HasOurs old.now.schema) (not_first : ¬ AreFirst old.now.schema) where
  raise_unheld : (c : Content) → ¬ (HoldsEither old c)
  raise_unheld c h = elim h [ inl content_held ↦ not_ours content_held.ours.schema | inr first ↦ not_first first.first.schema ]

  pub others_told : (reported : Option ℕ) (r : Result (Option ℕ) Error) → r ≡ Ok reported → LeavesTables old new r → (HasCleanDisk new → IfOk r (FindsVersion old.now)) → (fault : OpenFault) → (fault ≡ Damaged → (reported ≡ Some first_version) ⊎ (reported ≡ Some version))
      → (fault ≡ NotOurs → (reported ≢ Some first_version) × (reported ≢ Some version)) → (fault ≡ Damaged) ⊎ (fault ≡ NotOurs) → Adopts old new (open_refused (Unit {0}) fault)
  others_told reported r is left found fault damaged foreign known =
      turned_down old new fault (left_over old new r free left fault (λ _ disk. absurd (no_disk fault known disk)))
      (λ clean it. elim (damaged it) [
        | inl first ↦ inr (record { tables = not_first; reported = shows_it old.now reported (version_found old.now reported r is (found clean)) first_version first })
        | inr this ↦ inl (record { tables = not_ours; reported = shows_it old.now reported (version_found old.now reported r is (found clean)) version this })
      ])
      (λ clean it. inl (shows_neither old.now reported (version_found old.now reported r is (found clean)) (foreign it).0 (foreign it).1)) (λ _. raise_unheld)

  -- The tables' version can't be read.
  pub others_unread : (e : Error) → LeavesTables old new (failed_with (Option ℕ) e) → (HasCleanDisk new → IsUnreadFor old.step_limit old.now e) → (fault : OpenFault) → (fault ≡ Disk → IsTrue (is_disk_fault e))
      → (fault ≡ NotOurs → (e ≢ SqliteFailure code.OutOfMemory) × (is_disk_fault e ≡ false)) → fault ≢ Damaged → Adopts old new (open_refused (Unit {0}) fault)
  others_unread e left unread fault disk foreign undamaged =
      turned_down old new fault (left_over old new (failed_with (Option ℕ) e) free left fault (λ clean is. left.fault clean (disk is))) (λ _ is. absurd (undamaged is))
      (λ clean it. let other = foreign it in inr (subst (λ limit. IsUnreadBy limit old.now meta_text) free (unread clean other.0 other.1))) (λ _. raise_unheld)
