-- A keep with a cache around another keep: facts of it that follow from facts of the one inside.
use Rattle.std.proofs.Common.{IsSome, Contains, List, ◌≡◌, ◌≢◌, false, Some, Result, Ok, Err, OnOk, OnErr, refl, sym, subst}
use Rattle.toll_keep.proofs.Common.{false≢true, All-nil, AllChangesFit, Bytes, Change, Contains-none, Content, ContentKeepsRules, content_after, slice_of, CallEffect, IsReading, Keeps, KeepsHeld, MakesHeld, AreCachedRows, AreOf, IsNothing, IsCacheFor, IsCacheOf, OnlyKnownFor, OnlyKnownHaveRows, Meaning, OverContent, Part, meaning_of, HaveRead, KeepFault}
use Rattle.toll_keep.specs.Around.{cache_narrowed}
use Rattle.std.proofs.Math.Logic.{∥∥₁_elim}
use Rattle.toll_keep.specs.declared.keep_fault.KeepFault.TheVariants.{Damaged}
use Rattle.toll_keep.specs.declared.keep.Keep.{Ghosts}
use Rattle.toll_keep.specs.declared.cache.Cache.{Cache}
use Rattle.toll_keep.specs.declared.cached_keep.CachedKeep.{CachedKeep}
use Rattle.toll_keep.proofs.Calls.{Rests, rests, spared}
use Rattle.toll_keep.proofs.Outcomes.{on_err_all, on_ok_all}

-- An empty cache is a cache of any content.
pub nothing_of : (c : Content) (r : Cache) → IsNothing r → IsCacheOf c r
nothing_of c r none = record {
  slices = subst (AreOf c) (sym none.slices) (All-nil (λ s. slice_of c s.owner ≡ Some s));
  owners = subst (AreCachedRows c.owners) (sym none.owners) tt;
  units = subst (AreCachedRows c.units) (sym none.units) tt;
  graphs = λ known i. absurd (Contains-none known (subst (λ graphs. Contains graphs known) none.graphs i));
}

pub nothing_for : (os : List Bytes) (c : Content) (r : Cache) → IsNothing r → IsCacheFor os c r
nothing_for os c r none = cache_narrowed os c r (nothing_of c r none)

pub some_owners : (r : Cache) → IsSome r.owners → ¬ (IsNothing r)
some_owners r some none = false≢true (subst IsSome none.owners some)

pub some_units : (r : Cache) → IsSome r.units → ¬ (IsNothing r)
some_units r some none = false≢true (subst IsSome none.units some)

-- ---- a keep with a cache, whatever it holds around what the keep inside holds

-- what is held: by the keep inside, by the cache, and of which owners rows may be there
pub record Held {T : Type 0} (K : Ghosts T) : Type 1 where
  pub part : Part T
  pub IsOf : Content → Cache → Type 0
  pub Only : Content → Type 0
  pub empty : (c : Content) (r : Cache) → IsNothing r → IsOf c r

-- what is held of all owners, and of some
abbrev pub whole : {T : Type 0} (K : Ghosts T) → Held K
whole K = record { part = record { holds = λ k c. K.meaning.holds k c; leaves = λ k cs. K.meaning.leaves k cs }; IsOf = IsCacheOf; Only = OnlyKnownHaveRows; empty = nothing_of }

abbrev pub of_some : {T : Type 0} (K : Ghosts T) → List Bytes → Held K
of_some K os = record { part = K.part os; IsOf = IsCacheFor os; Only = OnlyKnownFor os; empty = nothing_for os }

module _ {T : Type 0} (K : Ghosts T) (h : Held K) where
  -- the meaning of the keep inside, and of the one around it
  abbrev pub inside_by : Meaning T
  inside_by = record K.meaning { holds = λ k c. h.part.holds k c; leaves = λ k cs. h.part.leaves k cs }

  abbrev pub around_by : Meaning (CachedKeep T K)
  around_by = record (meaning_of (λ r. r.keep) inside_by) { holds = λ r c. h.part.holds r.keep c × h.IsOf c r.cache × h.Only c }

  -- The first cache may become the second.
  abbrev Follows : CachedKeep T K → T → Cache → Type 0
  Follows old now r = K.meaning.is_honest now → (c : Content) → h.part.holds old.keep c → h.IsOf c old.cache → h.Only c → h.IsOf c r

  -- A cache that is emptied at a fault and otherwise kept is of any content that it was of.
  or_forgotten : {X : Type 0} (c : Content) (reported : Result X KeepFault) (old new : Cache) → OnOk reported (new ≡ old) → OnErr reported (IsNothing new) → h.IsOf c old → h.IsOf c new
  or_forgotten c (Ok x) old new kept forgotten of = subst (h.IsOf c) (sym kept) of
  or_forgotten c (Err e) old new kept forgotten of = h.empty c new forgotten

  -- ---- the answer of the keep inside is passed on

  pub goes_by : {X : Type 0} (old new : CachedKeep T K) (reported answer : Result X KeepFault) → answer ≡ reported → CallEffect inside_by old.keep new.keep reported → CallEffect around_by old new answer
  goes_by old new reported answer same went =
      let goes = subst (CallEffect inside_by old.keep new.keep) (sym same) went in
      record {
        honest = goes.honest;
        closed = goes.closed;
        closes = goes.closes;
        live = goes.live;
        shown = goes.shown;
        lasts = goes.lasts;
        spares = goes.spares;
        cause = goes.cause;
        since = λ honest later. goes.since honest later.keep;
        stays = goes.stays;
        shut = goes.shut;
      }

  content_by : (old new : CachedKeep T K) → Follows old new.keep new.cache → (K.meaning.is_honest new.keep → Keeps inside_by old.keep new.keep) → K.meaning.is_honest new.keep → Keeps around_by old new
  content_by old new kept keeps honest = record {
    content = λ c held. ((keeps honest).content c held.0, kept honest c held.0 held.1 held.2, held.2);
    crash = λ lives c held. (keeps honest).crash lives c held.0;
  }

  pub keeps_by : {X : Type 0} (old new : CachedKeep T K) (reported answer : Result X KeepFault) → answer ≡ reported → Follows old new.keep new.cache → KeepsHeld inside_by old.keep new.keep reported → KeepsHeld around_by old new answer
  keeps_by old new reported answer same kept held = record {
    goes = goes_by old new reported answer same held.goes;
    keeps = content_by old new kept held.keeps;
  }

  -- The cache is of the content after the call.
  reads_by : {X : Type 0} (old new : CachedKeep T K) (reported answer : Result X KeepFault) → answer ≡ reported → Follows old new.keep new.cache → IsReading inside_by old.keep new.keep reported → IsReading around_by old new answer
  reads_by old new reported answer same kept reads = record {
    goes = goes_by old new reported answer same reads.goes;
    keeps = content_by old new kept reads.keeps;
    whole = λ honest c held. subst (λ r. ContentKeepsRules c → r ≢ Err Damaged) (sym same) (reads.whole honest c held.0);
  }

  -- ---- calls that the cache answers

  -- That a store is live is a mere fact.
  abbrev LivesOnce : Type 0
  LivesOnce = (k : T) (a b : K.meaning.is_store_open k) → a ≡ b

  -- If the cache isn't empty, the keep inside is as after an answered reading call.
  abbrev RestsWhereSome : CachedKeep T K → Type 0
  RestsWhereSome old = ¬ (IsNothing old.cache) → HaveRead inside_by old.keep old.keep

  -- The keep inside is open, and live while it is honest.
  pub rested_by : Rests inside_by → LivesOnce → (old : CachedKeep T K) → RestsWhereSome old
  rested_by settled once old some = rests inside_by settled old.keep (old.unclosed some) (λ honest. ∥∥₁_elim (old.live some honest) (once old.keep) (λ there. there))

  -- The answer comes from the cache, or was read and added to it.
  pub tells_by : {X : Type 0} → Rests inside_by → LivesOnce → (old new : CachedKeep T K) (middle : Cache) (reported answer : Result X KeepFault) → answer ≡ reported → OnOk reported (new.cache ≡ middle) → OnErr reported (IsNothing new.cache) → Follows old new.keep middle
      → (RestsWhereSome old → IsReading inside_by old.keep new.keep reported) → IsReading around_by old new answer
  tells_by settled once old new middle reported answer same kept forgotten own reads =
      reads_by old new reported answer same (λ honest c held of only. or_forgotten c reported middle new.cache kept forgotten (own honest c held of only)) (reads (rested_by settled once old))

  -- So is an answer about rows that the keep doesn't hold.
  pub passes_by : {X : Type 0} → Rests inside_by → LivesOnce → (old new : CachedKeep T K) (middle : Cache) (reported answer : Result X KeepFault) → answer ≡ reported → OnOk reported (new.cache ≡ middle) → OnErr reported (IsNothing new.cache) → Follows old new.keep middle
      → (RestsWhereSome old → KeepsHeld inside_by old.keep new.keep reported) → KeepsHeld around_by old new answer
  passes_by settled once old new middle reported answer same kept forgotten own reads =
      keeps_by old new reported answer same (λ honest c held of only. or_forgotten c reported middle new.cache kept forgotten (own honest c held of only)) (reads (rested_by settled once old))

  -- ---- changes

  -- After the call the cache is of the content with all changes, or of the one from before.
  pub makes_by : {X : Type 0} → Rests inside_by → (old new : CachedKeep T K) (answer : Result X KeepFault) (changes : List Change)
      → (K.meaning.is_honest new.keep → (c : Content) → h.part.holds old.keep c → h.IsOf c old.cache → h.Only c → AllChangesFit c changes → OnOk answer (h.IsOf (content_after changes c) new.cache × h.Only (content_after changes c)))
      → (K.meaning.is_honest new.keep → (c : Content) → h.part.holds old.keep c → h.IsOf c old.cache → h.Only c → OnErr answer (h.IsOf c new.cache × h.Only c)) → MakesHeld inside_by old.keep new.keep answer changes → MakesHeld around_by old new answer changes
  makes_by settled old new answer changes after before makes = record {
    goes = goes;
    all = λ honest c held fits. on_ok_all (h.part.holds new.keep (content_after changes c)) (h.IsOf (content_after changes c) new.cache) (h.Only (content_after changes c)) answer (makes.all honest c held.0 fits) (after honest c held.0 held.1 held.2 fits);
    none = none;
    spared = λ is. spared around_by old new answer (λ k c honest lives held. settled k.keep c honest lives held.0) is goes none;
    whole = λ honest c held. makes.whole honest c held.0;
    crash = λ honest lives c held fits. makes.crash honest lives c held.0 fits;
  }
    where
      goes : CallEffect around_by old new answer
      goes = goes_by old new answer answer refl makes.goes

      none : OverContent around_by old new (λ c. OnErr answer (around_by.holds new c))
      none = λ honest c held. on_err_all (h.part.holds new.keep c) (h.IsOf c new.cache) (h.Only c) answer (makes.none honest c held.0) (before honest c held.0 held.1 held.2)

-- ---- what the cache may have beside the keep inside

module _ {T : Type 0} (K : Ghosts T) where
  abbrev pub MayStand : T → Cache → Type 0
  MayStand keep r = record { unclosed : ¬ (IsNothing r) → K.meaning.is_closed keep ≡ false; live : ¬ (IsNothing r) → K.meaning.is_honest keep → ∥ K.meaning.is_store_open keep ∥₁ }

  -- an empty cache, beside any keep
  pub cached_nothing_stands : (keep : T) (r : Cache) → IsNothing r → MayStand keep r
  cached_nothing_stands keep r none = record { unclosed = λ some. absurd (some none); live = λ some. absurd (some none) }

  -- any cache, beside a keep that did what it was asked; after a fault the cache is empty
  pub told_stands : {X : Type 0} (before now : T) (reported : Result X KeepFault) (r : Cache) → OnErr reported (IsNothing r) → CallEffect K.meaning before now reported → MayStand now r
  told_stands before now (Ok x) r forgotten went = record { unclosed = λ some. went.closes; live = λ some honest. ∣ went.shown honest ∣₁ }
  told_stands before now (Err e) r forgotten went = cached_nothing_stands now r forgotten

  -- The cache after a call that it answered may stand.
  pub telling_stands : {X : Type 0} → Rests K.meaning → ((k : T) (a b : K.meaning.is_store_open k) → a ≡ b) → (old : CachedKeep T K) (now : T) (reported : Result X KeepFault) (r : Cache) → OnErr reported (IsNothing r) → ((¬ (IsNothing old.cache) → HaveRead K.meaning old.keep old.keep) → IsReading K.meaning old.keep now reported) → MayStand now r
  telling_stands settled once old now reported r forgotten reads = told_stands old.keep now reported r forgotten (reads (rested_by K (whole K) settled once old)).goes
