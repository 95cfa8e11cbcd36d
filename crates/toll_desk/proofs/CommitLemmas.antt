-- A plan that is carried out.
use Rattle.std.proofs.Common.{◌≡◌, ◌==◌, ◌&&◌, Bool, true, false, List, [], ◌∷◌, length, Result, Ok, Err, OnOk, OnErr, IfOk, Contains, refl, sym, ap, subst, arith, ◌∙◌}
use Rattle.std.specs.Prelude.{◌≢◌}
use Rattle.toll_desk.proofs.Common.{false≢true, same_bytes-exact, Bytes, PutsOnly, History, Change, nat_eq-exact, IsLawful, Meaning, Content, content_after, AllChangesFit, CallEffect, IsReading, KeepFault, OverContent, goes_then, goes_as, goes_fault, settles}
use Rattle.toll_base.specs.declared.decision.Change.TheVariants.{Owner, Put, Unit as UnitAdded}
use Rattle.toll_keep.proofs.Calls.{Rests, kept_as, kept_fault}
use Rattle.toll_keep.specs.CallEffects.{FindsNoDamage}
use Rattle.toll_keep.specs.HeldFor.{KeepsHeld, KeepsOneMore, PutsOutside}
use Rattle.toll_keep.specs.declared.keep_fault.KeepFault.TheVariants.{Damaged}
use Rattle.toll_desk.proofs.KeptRules.{represented_keeps_rules}
use Rattle.toll_desk.proofs.StepLemmas.{answered_step, store_of}
use Rattle.toll_desk.specs.Outcome.{CommitEffect, LeavesOr, finished}
use Rattle.toll_desk.specs.Plans.{ChangesLeadTo}
use Rattle.toll_desk.specs.Reads.{Over}
use Rattle.toll_desk.specs.Representing.{Represents}
use Rattle.toll_desk.specs.Steps.{Calls, IsKeepStep, answered_steps, calls_of}

pub no_changes : (changes : List Change) → (length changes == 0) ≡ true → changes ≡ []
no_changes [] e = refl
no_changes (change ∷ changes) e = let none : length (change ∷ changes) ≡ 0 = nat_eq-exact (length (change ∷ changes)) 0 e in absurd (omega arith)

-- Changes that put rows of one owner put none of owners without it.
pub puts_outside : (os : List Bytes) (o : Bytes) (changes : List Change) → ¬ (Contains os o) → PutsOnly o changes → PutsOutside os changes
puts_outside os o [] other puts = tt
puts_outside os o (Put p row ∷ changes) other puts = (λ its. other (subst (Contains os) (same_bytes-exact p o puts.0) its), puts_outside os o changes other puts.1)
puts_outside os o (Owner row ∷ changes) other puts = absurd (false≢true puts.0)
puts_outside os o (UnitAdded row ∷ changes) other puts = absurd (false≢true puts.0)

pub and_false : (b : Bool) → (b && false) ≡ false
and_false true = refl
and_false false = refl

module _ {K : Type 0} {X : Type 0} (meaning : Meaning K) (old middle new : K) where
  -- a plan, and its changes after it
  pub goes_on : (planned : Result X KeepFault) (changes : List Change) (r : Result (Unit {0}) KeepFault) → CallEffect meaning old middle planned
      → OnErr planned (changes ≡ []) →
      (changes ≡ [] → (new ≡ middle) × (r ≡ Ok tt)) → ((changes ≡ [] → ⊥) → CallEffect meaning middle new r) → CallEffect meaning old new (finished planned r)
  goes_on planned [] r first none idle on =
      let same = idle refl in
      subst (λ r. CallEffect meaning old new (finished planned r)) (sym same.1) (subst (λ k. CallEffect meaning old k planned) (sym same.0) first)
  goes_on (Ok x) (change ∷ changes) (Ok done) first none idle on =
      goes_as meaning old new tt x (goes_then meaning old middle new x (Ok done) first (on (λ e. (cc))))
  goes_on (Ok x) (change ∷ changes) (Err fault) first none idle on =
      goes_fault meaning old new fault (goes_then meaning old middle new x (Err fault) first (on (λ e. (cc))))
  goes_on (Err fault) (change ∷ changes) r first none idle on = (cc)

  -- What is held is kept by a plan, and then by its changes. After a fault none are made.
  pub kept_on : (planned : Result X KeepFault) (r : Result (Unit {0}) KeepFault) → KeepsHeld meaning old middle planned
      → OnErr planned ((new ≡ middle) × (r ≡ Ok tt)) → KeepsOneMore meaning middle new r → KeepsHeld meaning old new (finished planned r)
  kept_on (Ok x) (Ok done) kept unmade more = kept_as meaning old new done x (more old (kept_as meaning old middle x tt kept))
  kept_on (Ok x) (Err fault) kept unmade more = kept_fault meaning old new fault (more old (kept_as meaning old middle x tt kept))
  kept_on (Err fault) r kept unmade more =
      subst (λ r. KeepsHeld {X = X} meaning old new (finished (Err fault) r)) (sym unmade.1) (subst (λ k. KeepsHeld {X = X} meaning old k (Err fault)) (sym unmade.0) kept)

  -- A plan that is a fault makes no changes.
  pub unmade_after_fault : (planned : Result X KeepFault) (changes made : List Change) (r : Result (Unit {0}) KeepFault) → made ≡ changes
      → CommitEffect meaning middle new made r → (grants : Result X KeepFault → Bool) → ((fault : KeepFault) → grants (Err fault) ≡ false)
      → (grants planned ≡ false → changes ≡ []) → OnErr planned ((new ≡ middle) × (r ≡ Ok tt))
  unmade_after_fault (Ok x) changes made r same commit grants refuses quiet = tt
  unmade_after_fault (Err fault) changes made r same commit grants refuses quiet = commit.idle (same ∙ quiet (refuses fault))

-- A plan, and then its changes, are one step. If nothing is granted, there are no changes; they are read through a reference.
module _ {K X : Type 0} (meaning : Meaning K) (rests : Rests meaning) (old middle new : K) (planned outcome : Result X KeepFault)
    (changes made : List Change) (result : Result (Unit {0}) KeepFault)
    (same : made ≡ changes) (is : outcome ≡ finished planned result) (reads : IsReading meaning old middle planned)
    (commit : CommitEffect meaning middle new made result)
    (grants : Result X KeepFault → Bool) (refuses : (fault : KeepFault) → grants (Err fault) ≡ false) (quiet : grants planned ≡ false → changes ≡ []) where
  between : OverContent meaning old new (meaning.holds middle)
  between now = (reads.keeps (commit.honest now)).content

  committed : CommitEffect meaning middle new changes result
  committed = subst (λ changes. CommitEffect meaning middle new changes result) same commit

  none_planned : OnErr planned (changes ≡ [])
  none_planned = by_fault planned quiet
    where
      by_fault : (p : Result X KeepFault) → (grants p ≡ false → changes ≡ []) → OnErr p (changes ≡ [])
      by_fault (Ok x) quiet = tt
      by_fault (Err fault) quiet = quiet (refuses fault)

  -- Without changes the content stays, and so it does if nothing is granted.
  stays_without : OverContent meaning old new (λ c. changes ≡ [] → meaning.holds new c)
  stays_without now c held none = subst (λ k. meaning.holds k c) (sym (committed.idle none).0) (between now c held)

  stays_ungranted : OverContent meaning old new (λ c. grants outcome ≡ false → meaning.holds new c)
  stays_ungranted now c held not = by_result result (commit.none now c (between now c held)) (ap grants (sym is) ∙ not)
    where
      by_result : (r : Result (Unit {0}) KeepFault) → OnErr r (meaning.holds new c) → grants (finished planned r) ≡ false → meaning.holds new c
      by_result (Ok done) unmade not = stays_without now c held (quiet not)
      by_result (Err fault) unmade not = unmade

  stays_failed : OverContent meaning old new (λ c. OnErr outcome (meaning.holds new c))
  stays_failed now c held = by_fault outcome (stays_ungranted now c held)
    where
      by_fault : (r : Result X KeepFault) → (grants r ≡ false → meaning.holds new c) → OnErr r (meaning.holds new c)
      by_fault (Ok x) stays = tt
      by_fault (Err fault) stays = stays (refuses fault)

  undamaged : FindsNoDamage meaning old new outcome
  undamaged now c held keeps = subst (λ r. r ≢ Err Damaged) (sym is) (by_result result (reads.whole (commit.honest now) c held keeps)
      (commit.whole now c (between now c held) keeps))
    where
      by_result : (r : Result (Unit {0}) KeepFault) → planned ≢ Err Damaged → r ≢ Err Damaged → finished planned r ≢ Err Damaged
      by_result (Ok done) first second = first
      by_result (Err fault) first second = λ is. let damaged : fault ≡ Damaged = (cc is) in second (ap (λ f. Err f) damaged)

  goes_out : CallEffect meaning old new outcome
  goes_out =
      subst (λ r. CallEffect meaning old new r) (sym is)
      (goes_on meaning old middle new planned changes result reads.goes none_planned committed.idle committed.goes)

  module _ {E : Type 0} (Answers : History → E → X → Type 0) (after : History → E → History) (e : E)
      (grows : (H : History) → IsLawful H → IsLawful (after H e)) where
    abbrev IsPlanned : Content → History → X → Type 0
    IsPlanned c H x = Answers H e x × ChangesLeadTo c changes (after H e)

    -- If the changes were made, the content after them is held.
    commit_right : (c : Content) (H : History) (p : Result X KeepFault) (r : Result (Unit {0}) KeepFault) → IfOk p (IsPlanned c H)
        → (AllChangesFit c changes → OnOk r (meaning.holds new (content_after changes c)))
        → IfOk (finished p r) (λ x. Answers H e x × meaning.holds new (content_after changes c) × Represents (content_after changes c) (after H e))
    commit_right c H (Ok x) (Ok done) (answer, leads) all = (answer, all leads.fits, leads.stands)
    commit_right c H (Err fault) (Ok done) plan all = tt
    commit_right c H p (Err fault) plan all = tt

    -- A stop during the step leaves the content from before, or the one after the changes.
    commit_left : meaning.is_honest new → (c : Content) (H : History) → meaning.holds old c → (p : Result X KeepFault) → IfOk p (IsPlanned c H)
        → OnErr p (changes ≡ [])
        → OnOk p (meaning.is_store_open middle) → meaning.is_store_open old → LeavesOr (meaning.leaves new) c (after H e)
    commit_left now c H held (Ok x) (answer, leads) none live was =
        record { others = content_after changes c ∷ []; stand = (leads.stands, tt); left = committed.crash now live c (between now c held) leads.fits }
    commit_left now c H held (Err fault) plan none live was = record {
      others = [];
      stand = tt;
      left = subst (λ k. meaning.leaves k (c ∷ [])) (sym (committed.idle none).0) ((reads.keeps (commit.honest now)).crash was c held);
    }

    pub commit_step : Over meaning old middle (λ c H. IfOk planned (IsPlanned c H))
        → (calls : E → Result X KeepFault → Calls → Type 0) → calls e outcome (calls_of outcome)
        → (if_still : Content → E → Result X KeepFault → Type 0 → Type 0)
        → (meaning.is_honest middle → (c : Content) → meaning.holds old c → (P : Type 0) → (grants outcome ≡ false → P) → (changes ≡ [] → P)
        → if_still c e outcome P)
        → IsKeepStep meaning (answered_steps Answers after calls if_still) old e outcome new
    commit_step plan calls called if_still still = record {
      outcome = calls_of outcome;
      calls = called;
      store = store_of meaning old new rests outcome goes_out stays_failed undamaged;
      still = λ now c held. still (commit.honest now) c held (meaning.holds new c) (stays_ungranted now c held) (stays_without now c held);
      over = λ now c H held stands lawful.
          let planned_so = plan (commit.honest now) c H held stands lawful in
          answered_step meaning Answers after old new (settles meaning old new outcome rests goes_out) now c H stands lawful e (grows H lawful) outcome
          (undamaged now c held (represented_keeps_rules H c lawful stands)) (content_after changes c)
          (subst (λ r. IfOk r (λ x. Answers H e x × meaning.holds new (content_after changes c) × Represents (content_after changes c) (after H e))) (sym is)
          (commit_right c H planned result planned_so (committed.all now c (between now c held))))
          (stays_failed now c held) (commit_left now c H held planned planned_so none_planned (reads.goes.shown (commit.honest now)));
    }
