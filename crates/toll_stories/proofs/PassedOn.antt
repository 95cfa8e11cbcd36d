-- A keep around another one, which passes a call on or refuses it.
use Rattle.std.proofs.Common.{◌≡◌, List, [], ◌∷◌, ◌++◌, Result, Ok, Err, IfErr, IfOk, OnOk, refl, sym, subst}
use Rattle.toll_base.specs.declared.decision.Change.{Change}
use Rattle.toll_keep.specs.CallEffects.{CallEffect, IsReading}
use Rattle.toll_keep.specs.Content.{Content, content_after}
use Rattle.toll_keep.specs.HeldFor.{KeepsHeld, MakesHeld, ReadsHeld}
use Rattle.toll_keep.specs.Meaning.{Meaning, meaning_of}
use Rattle.toll_keep.specs.declared.keep_fault.KeepFault.{KeepFault}
use Rattle.toll_keep.specs.declared.keep_fault.KeepFault.TheVariants.{Memory}
use Rattle.toll_keep.proofs.Calls.{Rests, read_fault, read_memory, spared}
use Rattle.toll_stories.specs.declared.refusing.Refusing.{Refusing}

-- the keep that it is around
abbrev pub kept_in : {T : Type 0} → Refusing T → T
kept_in r = r.keep

module _ {T R : Type 0} (inside : R → T) (m : Meaning T) where
  abbrev pub around : Meaning R
  around = meaning_of inside m

  goes_around : {X : Type 0} (old new : R) (r : Result X KeepFault) → CallEffect m (inside old) (inside new) r → CallEffect around old new r
  goes_around old new r goes = record {
    honest = goes.honest;
    closed = goes.closed;
    closes = goes.closes;
    live = goes.live;
    shown = goes.shown;
    lasts = goes.lasts;
    spares = goes.spares;
    cause = goes.cause;
    since = λ honest later. goes.since honest (inside later);
    stays = goes.stays;
    shut = goes.shut;
  }

  -- ---- a call that is passed on

  pub keeps_around : {X : Type 0} (old mid new : R) (r : Result X KeepFault) → inside mid ≡ inside old → KeepsHeld m (inside mid) (inside new) r → KeepsHeld around old new r
  keeps_around old mid new r same kept =
      let k = subst (λ t. KeepsHeld m t (inside new) r) same kept in
      record { goes = goes_around old new r k.goes; keeps = λ honest. record { content = (k.keeps honest).content; crash = (k.keeps honest).crash } }

  pub reads_around : {X : Type 0} (old mid new : R) (r : Result X KeepFault) → inside mid ≡ inside old → IsReading m (inside mid) (inside new) r → IsReading around old new r
  reads_around old mid new r same reading =
      let k = subst (λ t. IsReading m t (inside new) r) same reading in
      record { goes = goes_around old new r k.goes; keeps = λ honest. record { content = (k.keeps honest).content; crash = (k.keeps honest).crash }; whole = k.whole }

  pub makes_around : {X : Type 0} (old mid new : R) (r : Result X KeepFault) (changes : List Change) → inside mid ≡ inside old → MakesHeld m (inside mid) (inside new) r changes → MakesHeld around old new r changes
  makes_around old mid new r changes same makes =
      let k = subst (λ t. MakesHeld m t (inside new) r changes) same makes in
      record { goes = goes_around old new r k.goes; all = k.all; none = k.none; spared = k.spared; whole = k.whole; crash = k.crash }

  pub alone_around : {X : Type 0} (old mid new : R) (r : Result X KeepFault) (P : Content → Type 0) → inside mid ≡ inside old → ReadsHeld m (inside mid) (inside new) r P → ReadsHeld around old new r P
  alone_around old mid new r P same reads =
      let k = subst (λ t. ReadsHeld m t (inside new) r P) same reads in
      record { reading = reads_around old old new r refl k.reading; reads = k.reads }

  -- ---- a call that is refused: the keep inside is asked for rows, and no more

  pub refused : {X Y : Type 0} (old mid new : R) (requested : Result Y KeepFault) (r : Result X KeepFault) → inside mid ≡ inside old → OnOk requested (r ≡ Err Memory) → IfErr requested (λ fault. r ≡ Err fault) → IsReading m (inside mid) (inside new) requested → IsReading around old new r
  refused old mid new (Ok y) r same memory fault reading = subst (λ a. IsReading around old new a) (sym memory) (reads_around old mid new (Err Memory) same (read_memory m (inside mid) (inside new) y reading.goes reading.keeps))
  refused old mid new (Err e) r same memory fault reading = subst (λ a. IsReading around old new a) (sym fault) (reads_around old mid new (Err e) same (read_fault m (inside mid) (inside new) e reading.goes reading.keeps reading.whole))

  -- It tells nothing of the rows.
  tells_nothing : {X Y : Type 0} (requested : Result Y KeepFault) (r : Result X KeepFault) (P : X → Type 0) → OnOk requested (r ≡ Err Memory) → IfErr requested (λ fault. r ≡ Err fault) → IfOk r P
  tells_nothing (Ok y) r P memory fault = subst (λ a. IfOk a P) (sym memory) tt
  tells_nothing (Err e) r P memory fault = subst (λ a. IfOk a P) (sym fault) tt

  pub refused_alone : {X Y : Type 0} (old mid new : R) (requested : Result Y KeepFault) (r : Result X KeepFault) (P : Content → X → Type 0) → inside mid ≡ inside old → OnOk requested (r ≡ Err Memory) → IfErr requested (λ fault. r ≡ Err fault) → IsReading m (inside mid) (inside new) requested
      → ReadsHeld around old new r (λ c. IfOk r (P c))
  refused_alone old mid new requested r P same memory fault reading = record {
    reading = refused old mid new requested r same memory fault reading;
    reads = λ honest c held. tells_nothing requested r (P c) memory fault;
  }

  -- It makes no changes.
  unmade : {X : Type 0} (old new : R) (e : KeepFault) (changes : List Change) → Rests m → ((k : T) (cs more : List Content) → m.leaves k cs → m.leaves k (cs ++ more)) → IsReading {X = X} around old new (Err e) → MakesHeld {X = X} around old new (Err e) changes
  unmade old new e changes settled widened reading = record {
    goes = reading.goes;
    all = λ honest c held fits. tt;
    none = λ honest c held. (reading.keeps honest).content c held;
    spared = λ is. spared around old new (Err e) (λ k c honest lives held. settled (inside k) c honest lives held) is reading.goes (λ honest c held. (reading.keeps honest).content c held);
    whole = reading.whole;
    crash = λ honest lives c held fits. widened (inside new) (c ∷ []) (content_after changes c ∷ []) ((reading.keeps honest).crash lives c held);
  }

  pub refused_changes : {X Y : Type 0} (old mid new : R) (requested : Result Y KeepFault) (r : Result X KeepFault) (changes : List Change) → Rests m → ((k : T) (cs more : List Content) → m.leaves k cs → m.leaves k (cs ++ more)) → inside mid ≡ inside old → OnOk requested (r ≡ Err Memory)
      → IfErr requested (λ fault. r ≡ Err fault) → IsReading m (inside mid) (inside new) requested → MakesHeld around old new r changes
  refused_changes old mid new requested r changes settled widened same memory fault reading = by_fault requested r memory fault (refused old mid new requested r same memory fault reading)
    where
      by_fault : {X Y : Type 0} (requested : Result Y KeepFault) (r : Result X KeepFault) → OnOk requested (r ≡ Err Memory) → IfErr requested (λ fault. r ≡ Err fault) → IsReading around old new r → MakesHeld around old new r changes
      by_fault (Ok y) r memory fault it = subst (λ a. MakesHeld around old new a changes) (sym memory) (unmade old new Memory changes settled widened (subst (λ a. IsReading around old new a) memory it))
      by_fault (Err e) r memory fault it = subst (λ a. MakesHeld around old new a changes) (sym fault) (unmade old new e changes settled widened (subst (λ a. IsReading around old new a) fault it))
