-- The calls of a keep, by what its store did.
use Rattle.std.proofs.Common.{◌≡◌, ◌≢◌, ◌⊎◌, ◌+◌, ◌%◌, ◌^◌, ℕ, inl, inr, false, None, List, [], ◌∷◌, Ok, Err, Result, IfOk, OnErr, OnOk, IsTrue, arith, sym, ap, subst, ◌∙◌}
use Rattle.toll_sql.proofs.Common.{false≢true, cases_Bool, Database, State, Survives, HasCleanDisk, Trees, Change, Content, ContentKeepsRules, content_after, KeepFault, Memory, Disk, Damaged, Closed, IsFinding, IsLooking, IsProbedAfter, LeavesStore, ForIdle, Held, state, meaning_by, HoldsBy, IsOurs, LeavesBy, LiesOpen, HasApplied, PutsAll, HasOurs, goes_then, reads_then, read_fault, spared, CallEffect, IsReading, IsSpared, among-more, closes_keep}
use Rattle.sqlite_trees.specs.declared.store.Store.{Ghosts}
use Rattle.toll_keep.proofs.Calls.{answered, failed_call}
use Rattle.toll_keep.specs.Meaning.{Meaning}
use Rattle.toll_sql.specs.Causes.{CountsOneMore, HasCause, Reason}
use Rattle.toll_keep.specs.HeldFor.{KeepsHeld, MakesHeld, ReadsHeld}
use Rattle.toll_sql.proofs.Keeping.{kept_of, kept_then}
use Rattle.toll_sql.proofs.PassLemmas.{IsMadeOrRefused, PassesOn, looks_on, made_on, ok_always, ok_on, passing, spared_on, told_out, undamaged_on}
use Rattle.toll_sql.specs.Laws.{leaves_one}
use Rattle.toll_sql.specs.declared.sql_keep.SqlKeep.{SqlKeep}

-- ---- the count of calls that lacked memory

pub counted : {first mid last : ℕ} → CountsOneMore mid last → mid ≡ first → CountsOneMore first last
counted more same = more ∙ ap (λ n. (n + 1) % 2 ^ 64) same

-- ---- the store

-- A stop leaves what is committed.
abbrev pub OnlyLeaves : State → Type 0
OnlyLeaves s = (db : Trees) → s.may_leave db → db ≡ s.committed.trees

-- Tables that have rows of a content have those of the second one after these changes.
abbrev pub BecomesAfter : (Trees → Content → Type 0) → List Change → (Content → Content) → Type 0
BecomesAfter Rows changes becomes = (c : Content) (old new : Trees) → Rows old c → PutsAll changes old new → Rows new (becomes c)

module _ (Rows : Trees → Content → Type 0) where
  same_holds : (old new : State) (c : Content) → (new.now ≡ old.now) × (new.committed ≡ old.committed) → HoldsBy Rows old c → HoldsBy Rows new c
  same_holds old new c same h = record {
    ours = subst IsOurs (sym same.0) h.ours;
    idle = same.0 ∙ h.idle ∙ sym same.1;
    rows = subst (λ (db : Database). Rows db.trees c) (sym same.0) h.rows;
  }

  committed_held : (s : State) (c : Content) → OnlyLeaves s → HoldsBy Rows s c → (db : Trees) → s.may_leave db → Rows db c
  committed_held s c only h db may = subst (λ t. Rows t c) (ap (λ (d : Database). d.trees) h.idle ∙ sym (only db may)) h.rows

  still_left : (old new : State) (c : Content) → HoldsBy Rows old c → OnlyLeaves old → Survives old new (λ db. HasOurs old.now.schema → (IsTrue old.is_open → old.now ≡ old.committed) → ⊥) → HasCleanDisk new → LeavesBy Rows new (c ∷ [])
  still_left old new c h only s clean db may = elim (s.crash clean db may) [
    | inl before ↦ inl (committed_held old c only h db before)
    | inr never ↦ absurd (never h.ours.schema (λ _. h.idle))
  ]

  module _ (changes : List Change) (becomes : Content → Content) (after : BecomesAfter Rows changes becomes) where
    applied_holds : (old new : State) (c : Content) → HoldsBy Rows old c → HasApplied changes old new → HoldsBy Rows new (becomes c)
    applied_holds old new c h a = record { ours = a.0.ours; idle = a.2; rows = after c old.now.trees new.now.trees h.rows a.0.put }

    crash_left : (old new : State) (c : Content) → old.step_limit ≡ None → HoldsBy Rows old c → OnlyLeaves old
        → Survives old new (λ db. IsOurs old.now → old.step_limit ≡ None → PutsAll changes old.now.trees db) → HasCleanDisk new → LeavesBy Rows new (c ∷ becomes c ∷ [])
    crash_left old new c free h only s clean db may = elim (s.crash clean db may) [
      | inl before ↦ inl (committed_held old c only h db before)
      | inr puts ↦ inr (inl (after c old.now.trees db h.rows (puts h.ours free)))
    ]

pub since : (a b k : State) (P : Trees → Type 0) → Survives a b P → HasCleanDisk b → HasCause b k → HasCause a k
since a b k P s clean h = (omega (arith, s.counts, h.0), reason h.1)
  where
    reason : Reason b k → Reason a k
    reason (inl more) = inl (omega (arith, more, s.counts))
    reason (inr shut) = elim (cases_Bool a.is_open) [
      | inl was ↦ elim (s.closes clean was) [
        | inl live ↦ absurd (false≢true (sym shut ∙ live))
        | inr more ↦ inl (omega (arith, more, h.0))
      ]
      | inr not ↦ inr not
    ]

-- ---- the keep over a store of this kind

module _ {D : Type 0} (g : Ghosts D) (Rows : Trees → Content → Type 0) where
  abbrev K : Type 0
  K = SqlKeep D g

  abbrev meaning : Meaning (SqlKeep D g)
  meaning = meaning_by g Rows

  abbrev store : SqlKeep D g → State
  store k = state g k.conn

  abbrev IsHonest : K → Type 0
  IsHonest k = meaning.is_honest k

  abbrev IsLive : K → Type 0
  IsLive k = meaning.is_store_open k

  abbrev HoldsOpen : K → Content → Type 0
  HoldsOpen k c = meaning.holds k c

  abbrev KeepLeaves : K → List Content → Type 0
  KeepLeaves k cs = meaning.leaves k cs

  -- A stop leaves what is committed if the keep's store is open.
  abbrev RestsInStore : K → Type 0
  RestsInStore k = IsLive k → OnlyLeaves (store k)

  -- If Memory is reported, the store is open, or that isn't known.
  abbrev pub IsSure : {X : Type 0} → K → Result X KeepFault → Type 0
  IsSure new r = HasCleanDisk (store new) → r ≡ Err Memory → IsTrue (store new).is_open ⊎ IsTrue new.unsure

  module _ (old new : K) (open_before : old.closed ≡ false) where
    pub goes : {X : Type 0} (r : Result X KeepFault) (P : Trees → Type 0) → Survives (store old) (store new) P → (HasCleanDisk (store new) → IsTrue (store new).is_open → IsTrue (store old).is_open)
        → (HasCleanDisk (store new) → OnOk r (IsTrue (store new).is_open)) → (HasCleanDisk (store new) → r ≡ Err Disk → Reason (store old) (store new)) → r ≢ Err Closed → new.closed ≡ closes_keep r → IsSure new r
        → (IsHonest new → ¬ (IsLive old) → (cs : List Content) → KeepLeaves old cs → KeepLeaves new cs) → CallEffect meaning old new r
    goes r P survives live shown cause unclosed is sure shut = record {
      honest = λ clean. omega (arith, clean, survives.clean);
      closed = (λ reported. absurd (unclosed reported), λ was. absurd (false≢true (sym open_before ∙ was)));
      closes = is;
      live = λ clean now. record { is_open = live clean now.is_open };
      shown = λ clean. opened r (shown clean);
      lasts = λ clean lived. elim (survives.closes clean lived.is_open) [ inl now ↦ inl (record { is_open = now }) | inr more ↦ inr (survives.counts, inl more) ];
      spares = λ clean reported _. elim (sure clean reported) [ inl now ↦ inl (record { is_open = now }) | inr lacks ↦ inr lacks ];
      cause = λ clean reported. (survives.counts, cause clean reported);
      since = λ clean later h. since (store old) (store new) (store later) P survives clean h;
      stays = λ was cs left. absurd (false≢true (sym open_before ∙ was));
      shut = shut;
    }
      where
        opened : {X : Type 0} (r : Result X KeepFault) → OnOk r (IsTrue (store new).is_open) → OnOk r (LiesOpen (store new))
        opened (Ok x) h = record { is_open = h }
        opened (Err e) h = tt

    -- A call that read keeps what is held, whatever it read.
    kept : {X : Type 0} (r : Result X KeepFault) → RestsInStore old → IsLooking (store old) (store new) r → new.closed ≡ closes_keep r → IsSure new r
        → (IsHonest new → ¬ (IsLive old) → (cs : List Content) → KeepLeaves old cs → KeepLeaves new cs) → KeepsHeld meaning old new r
    kept r only looks is sure shut = record {
      goes = goes r _ looks.asks.survives looks.asks.live looks.asks.shown looks.cause looks.unclosed is sure shut;
      keeps = λ clean. record {
        content = λ c held live.
            let was = held (record { is_open = looks.asks.live clean live.is_open }) in
            same_holds Rows (store old) (store new) c (looks.asks.same clean was.ours.schema live.is_open was.idle) was;
        crash = λ live c held. still_left Rows (store old) (store new) c (held live) (only live) looks.asks.survives clean;
      };
    }

    looked : {X : Type 0} (r : Result X KeepFault) → RestsInStore old → IsLooking (store old) (store new) r → new.closed ≡ closes_keep r → IsSure new r
        → (HasCleanDisk (store new) → (c : Content) → HoldsBy Rows (store old) c → ContentKeepsRules c → r ≢ Err Damaged)
        → (IsHonest new → ¬ (IsLive old) → (cs : List Content) → KeepLeaves old cs → KeepLeaves new cs) → IsReading meaning old new r
    looked r only looks is sure whole shut =
        let it = kept r only looks is sure shut in
        record {
          goes = it.goes;
          keeps = it.keeps;
          whole = λ clean c held keeps reported. whole clean c (held (record { is_open = looks.asks.live clean (looks.damaged clean reported) })) keeps reported;
        }

  -- A call that asked only whether the store is open.
  pub found : (old new : K) (r : Result (Unit {0}) KeepFault) → RestsInStore old → old.closed ≡ false → IsTrue new.unsure → IsFinding (store old) (store new) r → new.closed ≡ closes_keep r → IsReading meaning old new r
  found old new r rests open_before unsure finds is =
      looked old new open_before r rests finds.looks is (λ _ _. inr unsure) (λ _ _ _ _. finds.undamaged)
      (λ clean _ cs left db may. left db (elim (finds.survives.crash clean db may) [ inl before ↦ before | inr never ↦ absurd never ]))

  -- What a call that makes changes does, and what it leaves. With them a content becomes the second one.
  pub record Applied (becomes : Content → Content) (old new : SqlKeep D g) (r : Result (Unit {0}) KeepFault) : Type 0 where
    pub goes : CallEffect meaning old new r
    pub all : IsHonest new → (c : Content) → HoldsOpen old c → OnOk r (HoldsOpen new (becomes c))
    pub none : IsHonest new → (c : Content) → HoldsOpen old c → OnErr r (HoldsOpen new c)
    pub spared : r ≡ Err Memory → IsSpared meaning old new
    pub whole : IsHonest new → (c : Content) → HoldsOpen old c → ContentKeepsRules c → r ≢ Err Damaged
    pub crash : IsHonest new → IsLive old → (c : Content) → HoldsOpen old c → KeepLeaves new (c ∷ becomes c ∷ [])

  -- If a content becomes itself, it is kept.
  pub unchanged : {old new : K} {r : Result (Unit {0}) KeepFault} → Applied (λ c. c) old new r → KeepsHeld meaning old new r
  unchanged {old} {new} {r} a = record {
    goes = a.goes;
    keeps = λ clean. record {
      content = λ c was. either r (HoldsOpen new c) (a.all clean c was) (a.none clean c was);
      crash = λ live c was db may. elim (a.crash clean live c was db may) [ inl h ↦ inl h | inr h ↦ elim h [ inl h ↦ inl h | inr never ↦ absurd never ] ];
    };
  }
    where
      either : (r : Result (Unit {0}) KeepFault) (P : Type 0) → OnOk r P → OnErr r P → P
      either (Ok x) P ok err = ok
      either (Err e) P ok err = err

  -- The changes make the content after them.
  pub made_held : {old new : K} {r : Result (Unit {0}) KeepFault} (changes : List Change) → Applied (content_after changes) old new r → MakesHeld meaning old new r changes
  made_held changes a = record {
    goes = a.goes;
    all = λ clean c held _. a.all clean c held;
    none = a.none;
    spared = a.spared;
    whole = a.whole;
    crash = λ clean live c held _. a.crash clean live c held;
  }

  -- ---- the first thing that each call does

  -- A call that ends there.
  pub unbegun : {X : Type 0} {old mid : K} {fault : KeepFault} {r : Result X KeepFault} → IsReading {X = Unit {0}} meaning old mid (failed_call fault) → r ≡ Err fault → IsReading meaning old mid r
  unbegun {X} {old} {mid} {fault} {r} first is = subst (λ r. IsReading meaning old mid r) (sym is) (read_fault meaning old mid fault first.goes first.keeps first.whole)

  module _ (old mid new : K) (first : IsReading {X = Unit {0}} meaning old mid (answered tt)) where
    -- The store was open when the query began.
    began_open : {P : Type 0} → IsHonest mid → ¬ (IsLive mid) → P
    began_open clean not = absurd (not (first.goes.shown clean))

    -- A call that reads, whose answer was passed on.
    keep_kept : {X : Type 0} (answer r : Result X KeepFault) (after : State) → PassesOn after (store new) answer r new.unsure → new.closed ≡ closes_keep r → RestsInStore mid → IsLooking (store mid) after answer → KeepsHeld meaning old new r
    keep_kept {X} answer r after passes is only looks =
        let there = looks_on (store mid) after (store new) answer r new.unsure passes looks in
        let it = kept mid new first.goes.closes r only there is (spared_on (store mid) after (store new) answer r new.unsure passes)
        (λ clean not. began_open (let before : HasCleanDisk (store mid) = omega (arith, clean, there.asks.survives.clean) in before) not) in
        kept_then meaning old mid new tt r (kept_of meaning first) it

    keep_reading : {X : Type 0} (answer r : Result X KeepFault) (after : State) → PassesOn after (store new) answer r new.unsure → new.closed ≡ closes_keep r → RestsInStore mid → IsLooking (store mid) after answer
        → (HasCleanDisk after → (c : Content) → HoldsBy Rows (store mid) c → ContentKeepsRules c → answer ≢ Err Damaged) → IsReading meaning old new r
    keep_reading {X} answer r after passes is only looks whole =
        let there = looks_on (store mid) after (store new) answer r new.unsure passes looks in
        reads_then meaning old mid new tt r first
        (looked mid new first.goes.closes r only there is (spared_on (store mid) after (store new) answer r new.unsure passes)
        (λ clean c held keeps. undamaged_on (store mid) after (store new) answer r new.unsure passes clean (λ before. whole before c held keeps))
        (λ clean not. began_open (let before : HasCleanDisk (store mid) = omega (arith, clean, there.asks.survives.clean) in before) not))

    -- Changes, whose outcome was passed on.
    module _ (changes : List Change) (becomes : Content → Content) (then : BecomesAfter Rows changes becomes) {made r : Result (Unit {0}) KeepFault} {after : Held D} (rests : (k : K) → RestsInStore k)
        (same : made ≢ Err Memory → (r ≡ made) × (new.conn ≡ after)) (requested : made ≡ Err Memory → IsProbedAfter (state g after) (store new) r new.unsure) (is : new.closed ≡ closes_keep r) (is_made : IsMadeOrRefused changes (store mid) (state g after) made) where
      passes : PassesOn (state g after) (store new) made r new.unsure
      passes = passing (state g) after new.conn made r new.unsure same requested

      there : IsMadeOrRefused changes (store mid) (store new) r
      there = made_on (store mid) (state g after) (store new) changes made r new.unsure passes is_made

      clean_when_begun : IsHonest new → IsHonest mid
      clean_when_begun clean = omega (arith, clean, there.survives.clean)

      held_when_begun : (c : Content) → IsHonest new → HoldsOpen old c → HoldsOpen mid c
      held_when_begun c clean was = (first.keeps (clean_when_begun clean)).content c was

      made_all : (c : Content) → IsHonest new → HoldsOpen old c → (m : Result (Unit {0}) KeepFault) → (IsOurs (store mid).now → OnOk m (HasApplied changes (store mid) (store new))) → OnOk m (LiesOpen (store new) → HoldsBy Rows (store new) (becomes c))
      made_all c clean was (Ok x) all = λ now. let it = held_when_begun c clean was (record { is_open = there.live clean now.is_open }) in applied_holds Rows changes becomes then (store mid) (store new) c it (all it.ours)
      made_all c clean was (Err e) all = tt

      made_none : (c : Content) → IsHonest new → HoldsOpen old c → (m : Result (Unit {0}) KeepFault) → (HoldsBy Rows (store mid) c → IsTrue (store new).is_open → OnErr m (((store new).now ≡ (store mid).now) × ((store new).committed ≡ (store mid).committed))) → OnErr m (LiesOpen (store new) → HoldsBy Rows (store new) c)
      made_none c clean was (Ok x) none = tt
      made_none c clean was (Err e) none = λ now. let it = held_when_begun c clean was (record { is_open = there.live clean now.is_open }) in same_holds Rows (store mid) (store new) c (none it now.is_open) it

      applied_goes : CallEffect meaning old new r
      applied_goes =
          goes_then meaning old mid new tt r first.goes
          (goes mid new first.goes.closes r _ there.survives there.live there.shown there.cause there.unclosed is (spared_on (store mid) (state g after) (store new) made r new.unsure passes) (λ clean not. began_open (clean_when_begun clean) not))

      pub applied : Applied becomes old new r
      applied =
          let none : IsHonest new → (c : Content) → HoldsOpen old c → OnErr r (HoldsOpen new c) = λ clean c was. made_none c clean was r (λ it live. there.none it.ours.schema it.idle clean live) in
          record {
            goes = applied_goes;
            all = λ clean c was. made_all c clean was r (λ ours. there.all clean ours mid.unlimited);
            none = none;
            spared = λ lacks. spared meaning old new r (λ k c clean live held. leaves_one (store k) c (rests k live) (held live)) lacks applied_goes none;
            whole = λ _ _ _ _. there.whole;
            crash = λ clean _ c was.
                let live = first.goes.shown (clean_when_begun clean) in
                crash_left Rows changes becomes then (store mid) (store new) c mid.unlimited (held_when_begun c clean was live) (rests mid live) there.survives clean;
          }

  -- What a call that reads does, and what it reports of the content and of the tables.
  pub record Asked {X : Type 0} (P : Content → X → Type 0) (Q : Database → Result X KeepFault → Type 0) (old new : SqlKeep D g) (r : Result X KeepFault) : Type 0 where
    pub reading : IsReading meaning old new r
    pub reads : IsHonest new → (c : Content) → HoldsOpen old c → IfOk r (P c)
    pub shown : ForIdle (store old) (store new) (λ db. Q db r)

  -- A call that began, read, and passed the answer on.
  module _ {X : Type 0} {old mid : K} {answer r : Result X KeepFault} {after : Held D} (rests : (k : K) → RestsInStore k) (new : SqlKeep D g) (first : IsReading {X = Unit {0}} meaning old mid (answered tt))
      (same : answer ≢ Err Memory → (r ≡ answer) × (new.conn ≡ after)) (requested : answer ≡ Err Memory → IsProbedAfter (state g after) (store new) r new.unsure) (is : new.closed ≡ closes_keep r) (looks : IsLooking (store mid) (state g after) answer) where
    asked_passes : PassesOn (state g after) (store new) answer r new.unsure
    asked_passes = passing (state g) after new.conn answer r new.unsure same requested

    pub ok_asked : (Q : X → Type 0) → IfOk answer Q → IfOk r Q
    ok_asked Q given = ok_always (store mid) (state g after) (store new) Q answer r new.unsure asked_passes given

    pub keeps_asked : KeepsHeld meaning old new r
    keeps_asked = keep_kept old mid new first answer r (state g after) asked_passes is (rests mid) looks

    pub reads_asked : (HasCleanDisk (state g after) → (c : Content) → HoldsBy Rows (store mid) c → ContentKeepsRules c → answer ≢ Err Damaged)
        → (P : Content → X → Type 0) → (HasCleanDisk (state g after) → (c : Content) → HoldsBy Rows (store mid) c → IfOk answer (P c)) → ReadsHeld meaning old new r (λ c. IfOk r (P c))
    reads_asked whole P reads = record {
      reading = keep_reading old mid new first answer r (state g after) asked_passes is (rests mid) looks whole;
      reads = λ clean c was.
          ok_on (store mid) (state g after) (store new) (P c) answer r new.unsure asked_passes clean
          (λ there. let before : HasCleanDisk (store mid) = omega (arith, there, looks.asks.survives.clean) in reads there c ((first.keeps before).content c was (first.goes.shown before)));
    }

    pub asked : LeavesStore {X = Unit {0}} {E = KeepFault} (store old) (store mid) (Ok tt) → (HasCleanDisk (state g after) → (c : Content) → HoldsBy Rows (store mid) c → ContentKeepsRules c → answer ≢ Err Damaged)
        → (P : Content → X → Type 0) → (HasCleanDisk (state g after) → (c : Content) → HoldsBy Rows (store mid) c → IfOk answer (P c))
        → (Q : Database → Result X KeepFault → Type 0) → ((db : Database) (fault : KeepFault) → fault ≢ Damaged → Q db (Err fault)) → ForIdle (store mid) (state g after) (λ db. Q db answer) → Asked P Q old new r
    asked stays whole P reads Q other told =
        let it = reads_asked whole P reads in
        record { reading = it.reading; reads = it.reads; shown = told_out (store old) (store mid) (state g after) (store new) Q other answer r new.unsure stays asked_passes looks told }

  -- A call that didn't begin to change anything.
  pub unapplied : (becomes : Content → Content) {old mid : K} {fault : KeepFault} {r : Result (Unit {0}) KeepFault} → ((k : K) → RestsInStore k) → IsReading {X = Unit {0}} meaning old mid (failed_call fault) → r ≡ Err fault → Applied becomes old mid r
  unapplied becomes {old} {mid} {fault} {r} rests first is =
      let read = unbegun first is in
      let none : IsHonest mid → (c : Content) → HoldsOpen old c → OnErr r (HoldsOpen mid c) = λ clean c held. subst (λ a. OnErr a (HoldsOpen mid c)) (sym is) ((read.keeps clean).content c held) in
      record {
        goes = read.goes;
        all = λ clean c held. subst (λ a. OnOk a (HoldsOpen mid (becomes c))) (sym is) tt;
        none = none;
        spared = λ lacks. spared meaning old mid r (λ k c clean live held. leaves_one (store k) c (rests k live) (held live)) lacks read.goes none;
        whole = read.whole;
        crash = λ clean live c held db may. among-more (Rows db) (c ∷ []) (becomes c ∷ []) ((read.keeps clean).crash live c held db may);
      }
