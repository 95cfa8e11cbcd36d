-- An answer that was passed on. After Memory, the store was asked whether it is open.
use Rattle.std.proofs.Common.{◌≡◌, ◌≢◌, inl, inr, Bool, List, Ok, Err, Result, IfOk, OnErr, OnOk, IsTrue, refl, sym, ap, subst, ◌∙◌, ◌⊎◌, is_err}
use Rattle.toll_sql.proofs.Common.{survives_then, Database, State, Survives, HasCleanDisk, Trees, Change, KeepFault, Memory, Disk, Damaged, Closed, ForIdle, IsProbedAfter, IsFinding, IsLooking, LeavesStore, memory_or_fault, Reason, HasOurs, Applies, LeavesPut}
use Rattle.toll_sql.proofs.CauseLemmas.{reason_before}
use Rattle.toll_sql.proofs.ReadOn.{clean_before}

-- The answer is passed on; after Memory, the result is what was found.
pub record PassesOn {X : Type 0} (old new : State) (answer result : Result X KeepFault) (unsure : Bool) : Type 1 where
  pub same : answer ≢ Err Memory → (result ≡ answer) × (new ≡ old)
  pub requested : answer ≡ Err Memory → IsProbedAfter old new result unsure

-- The same, by the state of the store.
pub passing : {H X : Type 0} (shows : H → State) (old new : H) (answer result : Result X KeepFault) (unsure : Bool) → (answer ≢ Err Memory → (result ≡ answer) × (new ≡ old))
    → (answer ≡ Err Memory → IsProbedAfter (shows old) (shows new) result unsure) → PassesOn (shows old) (shows new) answer result unsure
passing shows old new answer result unsure same requested = record { same = λ not. let s = same not in (s.0, ap shows s.1); requested = requested }

-- The changes were made or refused, with these effects.
pub record IsMadeOrRefused (changes : List Change) (old new : State) (made : Result (Unit {0}) KeepFault) : Type 0 where
  pub survives : Survives old new (LeavesPut changes old)
  pub live : HasCleanDisk new → IsTrue new.is_open → IsTrue old.is_open
  pub shown : HasCleanDisk new → OnOk made (IsTrue new.is_open)
  pub cause : HasCleanDisk new → made ≡ Err Disk → Reason old new
  pub unclosed : made ≢ Err Closed
  pub whole : made ≢ Err Damaged
  pub all : Applies changes old new made
  pub none : HasOurs old.now.schema → old.now ≡ old.committed → HasCleanDisk new → IsTrue new.is_open → OnErr made ((new.now ≡ old.now) × (new.committed ≡ old.committed))

-- If Disk is reported, Disk was found; Closed and Damaged are never reported.
found_disk : {X : Type 0} (found : Result (Unit {0}) KeepFault) → memory_or_fault {X = X} found ≡ Err Disk → found ≡ Err Disk
found_disk (Ok x) is = (cc)
found_disk (Err fault) is = (cc)

not_reported : {X : Type 0} (found : Result (Unit {0}) KeepFault) (fault : KeepFault) → fault ≢ Memory → found ≢ Err fault → memory_or_fault {X = X} found ≢ Err fault
not_reported (Ok x) fault other unfound is = other (cc)
not_reported (Err e) fault other unfound is = unfound (cc)

on_err_behind : (X : Type 0) {P : Type 0} (found : Result (Unit {0}) KeepFault) → P → OnErr (memory_or_fault {X = X} found) P
on_err_behind X (Ok x) p = p
on_err_behind X (Err e) p = p

reported_without_value : {X : Type 0} (Q : X → Type 0) (found : Result (Unit {0}) KeepFault) → IfOk (memory_or_fault {X = X} found) Q
reported_without_value Q (Ok x) = tt
reported_without_value Q (Err e) = tt

not_ok : (X P : Type 0) (found : Result (Unit {0}) KeepFault) → OnOk (memory_or_fault {X = X} found) P
not_ok X P (Ok x) = tt
not_ok X P (Err e) = tt

module _ (a b c : State) where
  -- A store that was asked whether it is open survives as it did before.
  survives_behind : {P : Trees → Type 0} (found : Result (Unit {0}) KeepFault) → Survives a b P → IsFinding b c found → Survives a c P
  survives_behind {P} found s f = survives_then a b c P (λ _. ⊥) P (λ _ db p. p) (λ _ db none. absurd none) s f.survives

  -- If the tables are ours and nothing was pending, an open store has what was there.
  pass_still_there : (found : Result (Unit {0}) KeepFault) → IsFinding b c found → HasCleanDisk c → IsTrue c.is_open → HasOurs a.now.schema → a.now ≡ a.committed
      → (b.now ≡ a.now) × (b.committed ≡ a.committed) → (c.now ≡ a.now) × (c.committed ≡ a.committed)
  pass_still_there found f clean live has idle one =
      let two = f.looks.asks.same clean (subst (λ (db : Database). HasOurs db.schema) (sym one.0) has) live (one.0 ∙ idle ∙ sym one.1) in
      (two.0 ∙ one.0, two.1 ∙ one.1)

  looked_behind : {X : Type 0} (found : Result (Unit {0}) KeepFault) → IsLooking {X = X} a b (Err Memory) → IsFinding b c found → IsLooking {X = X} a c (memory_or_fault found)
  looked_behind {X} found p f = record {
    asks = record {
      live = λ clean live. p.asks.live (clean_before a b c f.survives clean) (f.looks.asks.live clean live);
      shown = λ clean. not_ok _ _ found;
      same = λ clean has live idle.
          let before = clean_before a b c f.survives clean in
          pass_still_there found f clean live has idle (p.asks.same before has (f.looks.asks.live clean live) idle);
      mode = λ outside. f.looks.asks.mode (p.asks.mode outside);
      survives = survives_behind found p.asks.survives f;
    };
    cause = λ clean e. reason_before a b c _ _ p.asks.survives f.survives clean (f.looks.cause clean (found_disk {X = X} found e));
    unclosed = not_reported found Closed (λ is. (cc)) f.looks.unclosed;
    damaged = λ clean is. absurd (not_reported found Damaged (λ is. (cc)) f.undamaged is);
  }

  made_behind : (changes : List Change) (found : Result (Unit {0}) KeepFault) → IsMadeOrRefused changes a b (Err Memory) → IsFinding b c found → IsMadeOrRefused changes a c (memory_or_fault found)
  made_behind changes found p f = record {
    survives = survives_behind found p.survives f;
    live = λ clean live. p.live (clean_before a b c f.survives clean) (f.looks.asks.live clean live);
    shown = λ clean. not_ok _ _ found;
    cause = λ clean e. reason_before a b c _ _ p.survives f.survives clean (f.looks.cause clean (found_disk {X = Unit {0}} found e));
    unclosed = not_reported found Closed (λ is. (cc)) f.looks.unclosed;
    whole = not_reported found Damaged (λ is. (cc)) f.undamaged;
    all = λ clean ours free. not_ok _ _ found;
    none = λ has idle clean live.
        let before = clean_before a b c f.survives clean in
        on_err_behind (Unit {0}) found (pass_still_there found f clean live has idle (p.none has idle before (f.looks.asks.live clean live)));
  }

  -- the effect, whatever was answered
  passed_on_any : {X : Type 0} (P : State → Result X KeepFault → Type 0) (answer result : Result X KeepFault) (unsure : Bool) → PassesOn b c answer result unsure
      → ((found : Result (Unit {0}) KeepFault) → answer ≡ Err Memory → P b (Err Memory) → IsFinding b c found → P c (memory_or_fault found)) → P b answer → P c result
  passed_on_any {X} P answer result unsure on behind p = go answer refl p
    where
      other : (given : Result X KeepFault) → given ≡ answer → given ≢ Err Memory → P b given → P c result
      other given is not q = let s = on.same (λ lacks. not (is ∙ lacks)) in
          subst (λ r. P c r) (sym s.0) (subst (λ k. P k answer) (sym s.1) (subst (λ r. P b r) is q))

      go : (given : Result X KeepFault) → given ≡ answer → P b given → P c result
      go (Ok x) is q = other (Ok x) is (λ no. (cc)) q
      go (Err Memory) is q = let h = on.requested (sym is) in subst (λ r. P c r) (sym h.2) (behind h.0 (sym is) q h.1)
      go (Err Disk) is q = other (Err Disk) is (λ no. (cc)) q
      go (Err Damaged) is q = other (Err Damaged) is (λ no. (cc)) q
      go (Err Closed) is q = other (Err Closed) is (λ no. (cc)) q

  -- Reading that was passed on is still reading.
  pub looks_on : {X : Type 0} (answer result : Result X KeepFault) (unsure : Bool) → PassesOn b c answer result unsure → IsLooking a b answer → IsLooking a c result
  looks_on answer result unsure on = passed_on_any (λ k r. IsLooking a k r) answer result unsure on (λ found _ q f. looked_behind found q f)

  -- The same for changes.
  pub made_on : (changes : List Change) (answer result : Result (Unit {0}) KeepFault) (unsure : Bool) → PassesOn b c answer result unsure → IsMadeOrRefused changes a b answer → IsMadeOrRefused changes a c result
  made_on changes answer result unsure on = passed_on_any (λ k r. IsMadeOrRefused changes a k r) answer result unsure on (λ found _ q f. made_behind changes found q f)

  -- A fact of an answer that was given holds of the one that is passed on.
  pub ok_on : {X : Type 0} (Q : X → Type 0) (answer result : Result X KeepFault) (unsure : Bool) → PassesOn b c answer result unsure → HasCleanDisk c → (HasCleanDisk b → IfOk answer Q) → IfOk result Q
  ok_on Q answer result unsure on clean given =
      passed_on_any (λ k r. HasCleanDisk k → IfOk r Q) answer result unsure on (λ found _ _ _ _. reported_without_value Q found) given clean

  -- The same, whatever the disk returned.
  pub ok_always : {X : Type 0} (Q : X → Type 0) (answer result : Result X KeepFault) (unsure : Bool) → PassesOn b c answer result unsure → IfOk answer Q → IfOk result Q
  ok_always Q answer result unsure on given = passed_on_any (λ k r. IfOk r Q) answer result unsure on (λ found _ _ _. reported_without_value Q found) given

  -- What is so of the answer is so of the one that is passed on, if it is so of each fault but damage.
  pub told_on : {X : Type 0} (P : Result X KeepFault → Type 0) → ((fault : KeepFault) → fault ≢ Damaged → P (Err fault)) → (answer result : Result X KeepFault) (unsure : Bool) → PassesOn b c answer result unsure → HasCleanDisk c
      → (HasCleanDisk b → P answer) → P result
  told_on {X} P other answer result unsure on clean given = passed_on_any (λ k r. HasCleanDisk k → P r) answer result unsure on (λ found _ _ f _. behind found f.undamaged) given clean
    where
      behind : (found : Result (Unit {0}) KeepFault) → found ≢ Err Damaged → P (memory_or_fault found)
      behind (Ok x) not = other Memory (λ is. (cc))
      behind (Err fault) not = other fault (λ is. not (ap Err is))

  -- Damage that wasn't found isn't reported.
  pub undamaged_on : {X : Type 0} (answer result : Result X KeepFault) (unsure : Bool) → PassesOn b c answer result unsure → HasCleanDisk c → (HasCleanDisk b → answer ≢ Err Damaged) → result ≢ Err Damaged
  undamaged_on answer result unsure on clean given =
      passed_on_any (λ k r. HasCleanDisk k → r ≢ Err Damaged) answer result unsure on (λ found _ _ f _. not_reported found Damaged (λ is. (cc)) f.undamaged) given clean

  -- If Memory is reported, the store is open, or that isn't known.
  pub spared_on : {X : Type 0} (answer result : Result X KeepFault) (unsure : Bool) → PassesOn b c answer result unsure → HasCleanDisk c → result ≡ Err Memory → IsTrue c.is_open ⊎ IsTrue unsure
  spared_on {X} answer result unsure on clean is = go answer refl
    where
      passed : (given : Result X KeepFault) → given ≡ answer → given ≢ Err Memory → IsTrue c.is_open ⊎ IsTrue unsure
      passed given same not = absurd (not (same ∙ sym (on.same (λ lacks. not (same ∙ lacks))).0 ∙ is))

      found_open : (found : Result (Unit {0}) KeepFault) → IsFinding b c found → unsure ≡ is_err found → IsTrue c.is_open ⊎ IsTrue unsure
      found_open (Ok x) f same = inl (f.looks.asks.shown clean)
      found_open (Err e) f same = inr same

      go : (given : Result X KeepFault) → given ≡ answer → IsTrue c.is_open ⊎ IsTrue unsure
      go (Ok x) same = passed (Ok x) same (λ no. (cc))
      go (Err Memory) same = let h = on.requested (sym same) in found_open h.0 h.1 h.3
      go (Err Disk) same = passed (Err Disk) same (λ no. (cc))
      go (Err Damaged) same = passed (Err Damaged) same (λ no. (cc))
      go (Err Closed) same = passed (Err Closed) same (λ no. (cc))

-- What a call reports of the rows that the store had when it began to read is so of those from before the call.
pub told_out : {X : Type 0} (old mid after new : State) (P : Database → Result X KeepFault → Type 0) → ((db : Database) (fault : KeepFault) → fault ≢ Damaged → P db (Err fault)) → (answer result : Result X KeepFault) (unsure : Bool)
    → LeavesStore {X = Unit {0}} {E = KeepFault} old mid (Ok tt) → PassesOn after new answer result unsure → IsLooking mid after answer → ForIdle mid after (λ db. P db answer) → ForIdle old new (λ db. P db result)
told_out old mid after new P other answer result unsure began passes looks told = λ clean has idle.
    told_on mid after new (P old.now) (other old.now) answer result unsure passes clean (λ there.
    let before = clean_before old mid after looks.asks.survives there in
    let same = began.same before has (began.shown before) idle in
    subst (λ db. P db answer) same.0 (told there (subst (λ (db : Database). HasOurs db.schema) (sym same.0) has) (same.0 ∙ idle ∙ sym same.1)))
