-- One call of a keep after another, and a call under another answer.
use Rattle.std.proofs.Common.{◌≡◌, false, [], ◌∷◌, Result, Ok, Err, inl, inr, refl, sym, subst, ◌∙◌, ◌≢◌, ◌↔◌, ◌⊎◌, IsTrue, OnErr, OnOk}
use Rattle.toll_keep.proofs.Common.{Content, ContentKeepsRules, CallEffect, Keeps, IsReading, IsSpared, KeepsHeld, Settles, closes_keep, Meaning, OverContent, KeepFault}
use mathlib.Core.Bool.{false≢true}
use Rattle.toll_keep.specs.declared.keep_fault.KeepFault.TheVariants.{Memory, Disk, Damaged, Closed}

-- the result of a call that was answered, and of one that failed
abbrev pub answered : {X : Type 0} → X → Result X KeepFault
answered x = Ok x

abbrev pub failed_call : {X : Type 0} → KeepFault → Result X KeepFault
failed_call fault = Err fault

module _ {K : Type 0} (meaning : Meaning K) where
  abbrev GoesTo : {X : Type 0} → K → K → Result X KeepFault → Type 0
  GoesTo old new r = CallEffect meaning old new r

  abbrev ReadsTo : {X : Type 0} → K → K → Result X KeepFault → Type 0
  ReadsTo old new r = IsReading meaning old new r

  -- A call that was answered was of a keep that was not closed.
  open_before : {X : Type 0} (old new : K) (x : X) → GoesTo old new (answered x) → IsTrue (meaning.is_closed old) → ⊥
  open_before old new x goes was = let e : answered x ≡ Err Closed = goes.closed.1 was in (cc)

  -- another call after one that was answered
  pub goes_then : {X Y : Type 0} (old middle new : K) (x : X) (r : Result Y KeepFault) → GoesTo old middle (answered x) → GoesTo middle new r → GoesTo old new r
  goes_then old middle new x r first second = record {
    honest = λ now. first.honest (second.honest now);
    closed = (λ is. absurd (false≢true (subst (λ b. IsTrue b) first.closes (second.closed.0 is))), λ was. absurd (open_before old middle x first was));
    closes = second.closes;
    live = λ now lives. first.live (second.honest now) (second.live now lives);
    shown = second.shown;
    lasts = λ now lived. elim (second.lasts now (first.shown (second.honest now))) [ inl lives ↦ inl lives | inr cause ↦ inr (first.since (second.honest now) new cause) ];
    spares = λ now is lived. second.spares now is (first.shown (second.honest now));
    cause = λ now is. first.since (second.honest now) new (second.cause now is);
    since = λ now later cause. first.since (second.honest now) later (second.since now later cause);
    stays = λ was cs left. absurd (open_before old middle x first was);
    shut = λ now not cs left. let before = second.honest now in absurd (not (first.live before (first.shown before)));
  }

  -- While the store is live, a stop between two calls leaves the content that is held.
  abbrev pub Rests : Type 0
  Rests = (k : K) (c : Content) → meaning.is_honest k → meaning.is_store_open k → meaning.holds k c → meaning.leaves k (c ∷ [])

  -- The same holds once a call has returned, or the store met a cause of Disk.
  pub settles : {X : Type 0} (old new : K) (r : Result X KeepFault) → Rests → GoesTo old new r → Settles meaning old new
  settles old new r settled goes = λ now lived c held. elim (goes.lasts now lived) [ inl lives ↦ inl (lives, settled new c now lives held) | inr cause ↦ inr cause ]

  -- After Memory nothing changed, if the call leaves the content that is held.
  pub spared : {X : Type 0} (old new : K) (r : Result X KeepFault) → Rests → r ≡ Err Memory → GoesTo old new r → OverContent meaning old new (λ c. OnErr r (meaning.holds new c)) → IsSpared meaning old new
  spared old new r settled is goes none = λ now lived c held.
      let same : meaning.holds new c = subst (λ a. OnErr a (meaning.holds new c)) is (none now c held) in
      elim (goes.spares now is lived) [ inl lives ↦ inl (lives, same, settled new c now lives same) | inr unsure ↦ inr unsure ]

  -- An open keep that is live while it is honest is as after an answered reading call.
  pub rests : Rests → (k : K) → meaning.is_closed k ≡ false → (meaning.is_honest k → meaning.is_store_open k) → ReadsTo {X = Unit {0}} k k (answered tt)
  rests settled k open_there lives =
      let shut : IsTrue (meaning.is_closed k) → ⊥ = λ closed. false≢true (sym open_there ∙ closed) in
      record {
        goes = record {
          honest = λ now. now;
          closed = (λ e. absurd (cc e), λ closed. absurd (shut closed));
          closes = open_there;
          live = λ now there. there;
          shown = lives;
          lasts = λ now lived. inl lived;
          spares = λ now e lived. inl lived;
          cause = λ now e. absurd (cc e);
          since = λ now later cause. cause;
          stays = λ closed. absurd (shut closed);
          shut = λ now not cs left. left;
        };
        keeps = λ now. record { content = λ c held. held; crash = λ there c held. settled k c now there held };
        whole = λ now c held rules e. absurd (cc e);
      }

  pub settles_still : (k : K) → Rests → Settles meaning k k
  settles_still k settled = λ now lived c held. inl (lived, settled k c now lived held)

  pub reads_then : {X Y : Type 0} (old middle new : K) (x : X) (r : Result Y KeepFault) → ReadsTo old middle (answered x) → ReadsTo middle new r → ReadsTo old new r
  reads_then old middle new x r first second = record {
    goes = goes_then old middle new x r first.goes second.goes;
    keeps = λ now. let before = second.goes.honest now in record {
      content = λ c held. (second.keeps now).content c ((first.keeps before).content c held);
      crash = λ live c held. (second.keeps now).crash (first.goes.shown before) c ((first.keeps before).content c held);
    };
    whole = λ now c held rules. second.whole now c ((first.keeps (second.goes.honest now)).content c held) rules;
  }

  -- The effect of a call is also that of a call with another answer: the same fault, or none, or Memory where there was none.
  goes_under : {X Y : Type 0} (old new : K) (was : Result X KeepFault) (reported : Result Y KeepFault) →
      ((reported ≡ Err Closed) ↔ (was ≡ Err Closed)) → closes_keep was ≡ closes_keep reported → (OnOk was (meaning.is_store_open new) → OnOk reported (meaning.is_store_open new)) → (reported ≡ Err Disk → was ≡ Err Disk)
      → (reported ≡ Err Memory → (was ≡ Err Memory) ⊎ (OnOk was (meaning.is_store_open new) → meaning.is_store_open new)) → GoesTo old new was → GoesTo old new reported
  goes_under old new was reported shut_out alike shows fails lacks goes = record {
    honest = goes.honest;
    closed = (λ is. goes.closed.0 (shut_out.0 is), λ closed. shut_out.1 (goes.closed.1 closed));
    closes = goes.closes ∙ alike;
    live = goes.live;
    shown = λ now. shows (goes.shown now);
    lasts = goes.lasts;
    spares = λ now is lived. elim (lacks is) [ inl same ↦ goes.spares now same lived | inr answered ↦ inl (answered (goes.shown now)) ];
    cause = λ now is. goes.cause now (fails is);
    since = goes.since;
    stays = goes.stays;
    shut = goes.shut;
  }

  pub goes_as : {X Y : Type 0} (old new : K) (x : X) (y : Y) → GoesTo old new (answered x) → GoesTo old new (answered y)
  goes_as old new x y = goes_under old new (answered x) (answered y) (λ is. (cc), λ is. (cc)) refl (λ live. live) (λ is. (cc)) (λ is. (cc))

  pub goes_memory : {X Y : Type 0} (old new : K) (x : X) → GoesTo old new (answered x) → GoesTo {X = Y} old new (failed_call Memory)
  goes_memory {X} {Y} old new x = goes_under {X = X} {Y = Y} old new (answered x) (failed_call Memory) (λ is. (cc), λ is. (cc)) refl (λ live. tt) (λ is. (cc)) (λ is. inr (λ live. live))

  pub goes_fault : {X Y : Type 0} (old new : K) (fault : KeepFault) → GoesTo {X = X} old new (failed_call fault) → GoesTo {X = Y} old new (failed_call fault)
  goes_fault {X} {Y} old new fault = goes_under {X = X} {Y = Y} old new (failed_call fault) (failed_call fault) (λ is. (cc), λ is. (cc)) (closes_alike fault) (λ live. live) (λ is. (cc)) (λ is. inl (cc))
    where
      closes_alike : (fault : KeepFault) → closes_keep {X = X} (Err fault) ≡ closes_keep {X = Y} (Err fault)
      closes_alike Memory = refl
      closes_alike Disk = refl
      closes_alike Damaged = refl
      closes_alike Closed = refl

  abbrev KeepsTo : K → K → Type 0
  KeepsTo old new = meaning.is_honest new → Keeps meaning old new

  abbrev IsWhole : {X : Type 0} → K → K → Result X KeepFault → Type 0
  IsWhole old new r = meaning.is_honest new → (c : Content) → meaning.holds old c → ContentKeepsRules c → r ≢ Err Damaged

  pub read_ok : {X Y : Type 0} (old new : K) (x : X) (y : Y) → GoesTo old new (answered x) → KeepsTo old new → ReadsTo old new (answered y)
  read_ok old new x y goes keeps = record { goes = goes_as old new x y goes; keeps = keeps; whole = λ now c held rules is. (cc) }

  pub read_fault : {X Y : Type 0} (old new : K) (fault : KeepFault) → GoesTo {X = X} old new (failed_call fault) → KeepsTo old new → IsWhole {X = X} old new (failed_call fault) → ReadsTo {X = Y} old new (failed_call fault)
  read_fault old new fault goes keeps whole = record { goes = goes_fault old new fault goes; keeps = keeps; whole = λ now c held rules is. whole now c held rules (cc) }

  pub read_memory : {X Y : Type 0} (old new : K) (x : X) → GoesTo old new (answered x) → KeepsTo old new → ReadsTo {X = Y} old new (failed_call Memory)
  read_memory old new x goes keeps = record { goes = goes_memory old new x goes; keeps = keeps; whole = λ now c held rules is. (cc) }

  -- ---- what is held is kept

  pub kept_of : {X : Type 0} {old new : K} {r : Result X KeepFault} → IsReading meaning old new r → KeepsHeld meaning old new r
  kept_of reading = record { goes = reading.goes; keeps = reading.keeps }

  pub kept_then : {X Y : Type 0} (old middle new : K) (x : X) (r : Result Y KeepFault) → KeepsHeld meaning old middle (answered x) → KeepsHeld meaning middle new r → KeepsHeld meaning old new r
  kept_then old middle new x r first second = record {
    goes = goes_then old middle new x r first.goes second.goes;
    keeps = λ now. let before = second.goes.honest now in record {
      content = λ c held. (second.keeps now).content c ((first.keeps before).content c held);
      crash = λ live c held. (second.keeps now).crash (first.goes.shown before) c ((first.keeps before).content c held);
    };
  }

  pub kept_as : {X Y : Type 0} (old new : K) (x : X) (y : Y) → KeepsHeld meaning old new (answered x) → KeepsHeld meaning old new (answered y)
  kept_as old new x y kept = record { goes = goes_as old new x y kept.goes; keeps = kept.keeps }

  pub kept_memory : {X Y : Type 0} (old new : K) (x : X) → KeepsHeld meaning old new (answered x) → KeepsHeld {X = Y} meaning old new (failed_call Memory)
  kept_memory old new x kept = record { goes = goes_memory old new x kept.goes; keeps = kept.keeps }

  pub kept_fault : {X Y : Type 0} (old new : K) (fault : KeepFault) → KeepsHeld {X = X} meaning old new (failed_call fault) → KeepsHeld {X = Y} meaning old new (failed_call fault)
  kept_fault old new fault kept = record { goes = goes_fault old new fault kept.goes; keeps = kept.keeps }
