-- Reading calls in a row.
use Rattle.std.proofs.Common.{◌≡◌, ◌<◌, ℕ, suc, ◌+◌, true, List, [], ◌∷◌, ◌++◌, take, drop, length, get_or, inl, inr, Ok, Err, Result, OnOk, IsTrue, refl, sym, ap, subst, subst₂, ◌∙◌, arith}
use Rattle.toll_sql.proofs.Common.{false≢true, length-map, take-length, on_ok_weaker, AllByRecursion, Database, State, HasCleanDisk, Survives, Trees, Bytes, Slice, KeepFault, Disk, Damaged, Closed, Memory, LeavesStore, ForIdle, IsLooking, rows_for, front_slice, HasOurs, AreAllTaken, LacksRoomIn, ReadsNext, ReadsOn, next_of, AreRowsIn, ShowsOwnRows, tables_of_owners, is_owned, TableKind, Meta, Owners, Units, Materials}
use Rattle.toll_sql.proofs.CauseLemmas.{reason_before}
use Rattle.toll_sql.proofs.LookLemmas.{held_on}
use Rattle.toll_sql.proofs.SoFar.{all_append}
use Rattle.toll_sql.proofs.Taken.{all_taken_then, lacks_in_before, lacks_in_then}

-- ---- two reading calls in a row are one

module _ (a b c : State) where
  pub clean_before : {P : Trees → Type 0} → Survives b c P → HasCleanDisk c → HasCleanDisk b
  clean_before s clean = omega (arith, clean, s.clean)

  asks_then : {X Y E F : Type 0} (x : X) (r : Result Y F) → LeavesStore {X = X} {E = E} a b (Ok x) → LeavesStore b c r → LeavesStore a c r
  asks_then x r p q = record {
    live = λ clean live. p.live (clean_before q.survives clean) (q.live clean live);
    shown = q.shown;
    same = λ clean has live idle.
        let before = clean_before q.survives clean in
        let middle = q.live clean live in
        let one = p.same before has middle idle in
        let two = q.same clean (subst (λ (db : Database). HasOurs db.schema) (sym one.0) has) live (one.0 ∙ idle ∙ sym one.1) in
        (two.0 ∙ one.0, two.1 ∙ one.1);
    mode = λ outside. q.mode (p.mode outside);
    survives = record {
      clean = omega (arith, p.survives.clean, q.survives.clean);
      shield = λ h. q.survives.shield (p.survives.shield h);
      counts = omega (arith, p.survives.counts, q.survives.counts);
      limit = q.survives.limit ∙ p.survives.limit;
      closes = λ clean live. elim (p.survives.closes (clean_before q.survives clean) live) [
        | inl still ↦ elim (q.survives.closes clean still) [ inl now ↦ inl now | inr more ↦ inr (omega (arith, more, p.survives.counts)) ]
        | inr more ↦ inr (omega (arith, more, q.survives.counts))
      ];
      crash = λ clean db may. elim (q.survives.crash clean db may) [
        | inl before ↦ p.survives.crash (clean_before q.survives clean) db before
        | inr committed ↦ inr (λ has quiet.
            let before = clean_before q.survives clean in
            let middle = p.shown before in
            let idle = quiet (p.live before middle) in
            let one = p.same before has middle idle in
            committed (subst (λ (db : Database). HasOurs db.schema) (sym one.0) has) (λ _. one.0 ∙ idle ∙ sym one.1))
      ];
    };
  }

  pub looks_then : {X Y : Type 0} (x : X) (r : Result Y KeepFault) → IsLooking {X = X} a b (Ok x) → IsLooking b c r → IsLooking a c r
  looks_then x r p q = record {
    asks = asks_then x r p.asks q.asks;
    cause = λ clean e. reason_before a b c _ _ p.asks.survives q.asks.survives clean (q.cause clean e);
    unclosed = q.unclosed;
    damaged = q.damaged;
  }

-- A reading call with another answer.
pub looks_as : {X Y : Type 0} (a b : State) (r : Result X KeepFault) (t : Result Y KeepFault) → IsLooking a b r → (OnOk r (IsTrue b.is_open) → OnOk t (IsTrue b.is_open)) → (t ≡ Err Disk → r ≡ Err Disk) → (t ≡ Err Closed → r ≡ Err Closed) → (t ≡ Err Damaged → r ≡ Err Damaged)
    → IsLooking a b t
looks_as a b r t p shown disk closed damaged = record {
  asks = record { live = p.asks.live; shown = λ clean. shown (p.asks.shown clean); same = p.asks.same; mode = p.asks.mode; survives = p.asks.survives };
  cause = λ clean is. p.cause clean (disk is);
  unclosed = λ is. p.unclosed (closed is);
  damaged = λ clean is. p.damaged clean (damaged is);
}

-- ---- tables one after another

pub shows_then : {X Y : Type 0} (kinds others : List TableKind) (o : Bytes) (a b c : State) (x : X) (r : Result Y KeepFault) → IsLooking {X = X} a b (Ok x) → ShowsOwnRows {X = X} kinds o a b (Ok x) → IsLooking b c r → ShowsOwnRows others o b c r → ShowsOwnRows (kinds ++ others) o a c r
shows_then kinds others o a b c x r p shown q more = λ clean has idle.
    let before = clean_before a b c q.asks.survives clean in
    let same = p.asks.same before has (p.asks.shown before) idle in
    let behind = more clean (subst (λ (db : Database). HasOurs db.schema) (sym same.0) has) (same.0 ∙ idle ∙ sym same.1) in
    on_ok_weaker r (λ all. all_append (AreRowsIn o a.now.trees) kinds others (shown before has idle) (subst (λ (db : Database). AllByRecursion (AreRowsIn o db.trees) others) same.0 all)) behind

-- What the tables had before reading that succeeded, they still have after it.
over_then : {X Y : Type 0} (a b c : State) (x : X) (r : Result Y KeepFault) (P : Database → Type 0) → IsLooking {X = X} a b (Ok x) → IsLooking b c r → ForIdle b c P → ForIdle a c P
over_then a b c x r P p q over = λ clean has idle.
    let before = clean_before a b c q.asks.survives clean in
    let same = p.asks.same before has (p.asks.shown before) idle in
    subst P same.0 (over clean (subst (λ (db : Database). HasOurs db.schema) (sym same.0) has) (same.0 ∙ idle ∙ sym same.1))

module _ (f g h : Slice → Slice) {kinds others : List TableKind} (o : Bytes) where
  pub read_then : {X Y : Type 0} (a b c : State) (s t u : Slice) (x : X) (r : Result Y KeepFault) → ReadsOn f g kinds o {X = X} a b s t (Ok x) → ReadsOn g h others o b c t u r → ReadsOn f h (kinds ++ others) o a c s u r
  read_then a b c s t u x r p q = record {
    looks = looks_then a b c x r p.looks q.looks;
    shows = shows_then kinds others o a b c x r p.looks p.shows q.looks q.shows;
    reads = λ clean slice held first.
        let before = clean_before a b c q.looks.asks.survives clean in
        q.reads clean slice (held_on is_owned a b x o slice p.looks.asks before held) (p.reads before slice held first);
    whole = λ clean slice held keeps first.
        let before = clean_before a b c q.looks.asks.survives clean in
        q.whole clean slice (held_on is_owned a b x o slice p.looks.asks before held) keeps (p.reads before slice held first);
    taken = λ clean has idle.
        let so_far = p.taken (clean_before a b c q.looks.asks.survives clean) has idle in
        on_ok_weaker r (λ all. all_taken_then o a.now.trees kinds others s t u so_far all) (over_then a b c x r (λ db. OnOk r (AreAllTaken others o db.trees t u)) p.looks q.looks q.taken clean has idle);
    lacks = λ clean has idle is.
        let so_far = p.taken (clean_before a b c q.looks.asks.survives clean) has idle in
        lacks_in_then o a.now.trees kinds others s t u so_far (over_then a b c x r (λ db. r ≡ Err Memory → LacksRoomIn others o db.trees t u) p.looks q.looks q.lacks clean has idle is);
  }

  -- A call that failed read nothing.
  pub reads_not : {X Y : Type 0} (more : List TableKind) → kinds ++ more ≡ others → (a b : State) (s t : Slice) (e : KeepFault) → ReadsOn f g kinds o {X = X} a b s t (Err e) → ReadsOn f h others o {X = Y} a b s t (Err e)
  reads_not more all a b s t e p = record {
    looks = record {
      asks = record { live = p.looks.asks.live; shown = λ clean. tt; same = p.looks.asks.same; mode = p.looks.asks.mode; survives = p.looks.asks.survives };
      cause = λ clean is. p.looks.cause clean (ap Err (same_error is));
      unclosed = λ is. p.looks.unclosed (ap Err (same_error is));
      damaged = λ clean is. p.looks.damaged clean (ap Err (same_error is));
    };
    shows = λ clean has idle. tt;
    reads = λ clean slice held first. tt;
    whole = λ clean slice held keeps first is. p.whole clean slice held keeps first (ap Err (same_error is));
    taken = λ clean has idle. tt;
    lacks = λ clean has idle is. subst (λ kinds. LacksRoomIn kinds o a.now.trees s t) all (lacks_in_before o a.now.trees kinds more s t (p.lacks clean has idle (ap Err (same_error is))));
  }
    where
      same_error : {Z : Type 0} {d e : KeepFault} → ◌≡◌ {A = Result Z KeepFault} (Err d) (Err e) → d ≡ e
      same_error is = cc

-- ---- a table that was read completely is done

pub front_of_next : (k : TableKind) (s : Slice) → is_owned k ≡ true → front_slice k (length (rows_for k s)) s ≡ front_slice (next_of k) 0 s
front_of_next Meta s owned = absurd (false≢true owned)
front_of_next Owners s owned = absurd (false≢true owned)
front_of_next Units s owned = absurd (false≢true owned)
front_of_next _ s owned = simp (length-map, take-length) refl

-- ---- each table after the one before it

-- the table with this number, and the first tables
abbrev pub kind_at : ℕ → TableKind
kind_at n = get_or tables_of_owners n Meta

pub owners_table_step : (i : ℕ) → i < 11 → (is_owned (kind_at i) ≡ true) × (next_of (kind_at i) ≡ kind_at (i + 1)) × (take i tables_of_owners ++ kind_at i ∷ [] ≡ take (i + 1) tables_of_owners) × (take (i + 1) tables_of_owners ++ drop (i + 1) tables_of_owners ≡ tables_of_owners)
owners_table_step (suc (suc (suc (suc (suc (suc (suc (suc (suc (suc (suc i))))))))))) low = absurd (omega (arith, low))
owners_table_step _ low = (refl, refl, refl, refl)

abbrev pub read_well : Result (Unit {0}) KeepFault
read_well = Ok tt

-- This many tables are read, from the first on.
abbrev pub HasRead : ℕ → Bytes → State → State → Slice → Slice → Type 0
HasRead n o a b s t = ReadsOn (front_slice Materials 0) (front_slice (kind_at n) 0) (take n tables_of_owners) o a b s t read_well

pub one_more_read : (tables : List TableKind) → tables ≡ tables_of_owners → (i : ℕ) → i < length tables → (o : Bytes) (a b c : State) (s t u : Slice) (r : Result (Unit {0}) KeepFault) → HasRead i o a b s t → (is_owned (get_or tables i Meta) ≡ true → ReadsNext (get_or tables i Meta) o b c t u r)
    → ReadsOn (front_slice Materials 0) (front_slice (kind_at (i + 1)) 0) (take (i + 1) tables_of_owners) o a c s u r
one_more_read tables are i low o a b c s t u r so next =
    let one = subst (λ all. is_owned (get_or all i Meta) ≡ true → ReadsNext (get_or all i Meta) o b c t u r) are next in
    let k = kind_at i in
    let step = owners_table_step i (subst (λ all. i < length all) are low) in
    subst₂ (λ next kinds. ReadsOn (front_slice Materials 0) (front_slice next 0) kinds o a c s u r) step.1 step.2 (read_then (front_slice Materials 0) (front_slice k 0) (front_slice (next_of k) 0) o a b c s t u tt r so (one step.0))
