-- Replies whose changes are held back, and these changes once they are made.
use Rattle.std.proofs.Common.{◌≡◌, ℕ, Bool, true, false, cond, is_ok, List, [], MatchBool, Some, None, Result, Ok, Err, IfErr, IfOk, refl, sym, subst, subst₂, inl, inr, ◌∙◌}
use Rattle.toll_wire.proofs.Common.{Vec, false≢true, Bytes, History, Meaning, Content, IsReading, KeepFault, Memory, Request, OwnerReply, ReplyForbidden, has_owner_key, IsReply, may_change, writes, finished, IfOk-weaker, IsKeepStep, calls_of, Text, Unavailable, fault_or_memory, text_of_failure, Forbidden, text_if_reply, ClaimedRequest, Asks, Fails, Saying, By, Nobody, IsTold, MayBeReply, after_saying, IfSayingUnchanging, IsAnswered, SayingCalls, saying_steps}
use Rattle.toll_base.specs.declared.decision.Change.{Change}
use Rattle.toll_history.specs.OwnChanges.{PutsOnly}
use Rattle.toll_keep.proofs.Calls.{Rests, answered, kept_as, kept_fault, read_fault, read_memory, read_ok}
use Rattle.toll_keep.specs.HeldFor.{KeepsHeld, KeepsOneMore, PutsOutside}
use Rattle.toll_desk.specs.Clauses.{IfUnchanging, OverContentRows}
use Rattle.toll_desk.specs.Outcome.{CommitEffect}
use Rattle.toll_desk.specs.Plans.{ChangesLeadTo, IsPlan}
use Rattle.toll_desk.specs.Reads.{Over}
use Rattle.toll_desk.specs.Steps.{StepKind, answered_steps}
use Rattle.toll_desk.proofs.CommitLemmas.{and_false, commit_step}
use Rattle.toll_desk.proofs.SliceToContent.{leads_nowhere}
use Rattle.toll_desk.proofs.StepLemmas.{step_as}
use Rattle.toll_wire.specs.declared.outgoing.Out.{Out}
use Rattle.toll_wire.specs.Held.{HoldCalls, IsHeldBack, IsHeldBackKeeping, IsHolding, IsReadAtMost, PutsFor, changes_held, text_held}
use Rattle.toll_wire.specs.declared.holding.HeldReply.{HeldReply}
use Rattle.toll_wire.specs.OutTexts.{IsText, out_of, text_if}
use Rattle.toll_wire.proofs.Served.{grants_none, if_saying_follows, so_unchanging, uncalled, untold}
use Rattle.toll_wire.proofs.Valid.{IsValidSaying, lawful_after_saying, says_valid}
use Rattle.toll_wire.specs.Steps.{IsAnsweredKeeping, ReplyCalls}

-- the one text that there may be is the text of the reply
pub text_there : (out : Out) (text : Bytes) (r : Result (Vec ℕ) KeepFault) → out_of r ≡ out → IsText out (Some text) → IfOk r (λ found. found.items ≡ text)
text_there out text (Ok found) same is = subst (λ out. IsText out (Some text)) (sym same) is
text_there out text (Err fault) same is = tt

-- what a right key asks for puts the owner's rows; what is forbidden has no changes
puts_planned : (c : Content) (H : History) (o key : Bytes) (q : Request) (reported : OwnerReply) (changes : List Change) → IsPlan c H o key q reported changes
    → (may_change q (Ok reported) ≡ false → changes ≡ []) → PutsFor H (By o (Some key) (Asks q)) changes
unfolding IsReply
puts_planned c H o key q reported changes plan quiet =
    elim (has_owner_key o key H) as (λ b. has_owner_key o key H ≡ b → MatchBool b (PutsOnly o changes) (changes ≡ [])) [
      | true ↦ λ right. plan.own
      | false ↦ λ wrong.
          let forbidden : reported ≡ ReplyForbidden = rw wrong at plan.reply in
          quiet (subst (λ r. may_change q (Ok r) ≡ false) (sym forbidden) (and_false (writes q)))
    ] refl

module _ {K : Type 0} (meaning : Meaning K) (old new : K) where
  -- ---- after a plan

  -- a plan whose text is there
  pub held_planned : (o key : Bytes) (q : Request) (planned : Result OwnerReply KeepFault) (text : Vec ℕ) (changes : List Change)
      → IsText (Text text) (text_if_reply planned) → IsReading meaning old new planned
      → IfUnchanging (OverContentRows meaning old new o) q planned (changes ≡ [])
      → Over meaning old new (λ c H. IfOk planned (λ reported. IsPlan c H o key q reported changes))
      → IsHolding meaning old new (By o (Some key) (Asks q)) (Ok text) changes
  held_planned o key q (Err fault) text changes is reads idle plan = absurd is
  held_planned o key q (Ok reported) text changes is reads idle plan = record {
    calls = read_ok meaning old new reported text reads.goes reads.keeps;
    tells = (reported, tt, is);
    asks = λ none. idle.quiet (rw none refl);
    still = λ now c held. record {
      asks = λ none. idle.quiet (rw none refl);
      quiet = λ not. idle.quiet (grants_none q reported text is not);
      once = λ placing same there. idle.once now c held placing same there;
    };
    over = λ now c H held stands lawful.
        let planned = plan now c H held stands lawful in
        record { told = (reported, planned.reply, is); leads = planned.leads; puts = puts_planned c H o key q reported changes planned idle.quiet };
  }

  -- a fault of the reading, or no memory after it
  text_unread : {X : Type 0} (r : Result X KeepFault) → IsReading meaning old new r → IsReading {X = Vec ℕ} meaning old new (Err (fault_or_memory r))
  text_unread (Ok x) reads = read_memory meaning old new x reads.goes reads.keeps
  text_unread (Err fault) reads = read_fault meaning old new fault reads.goes reads.keeps reads.whole

  pub held_nothing : {X : Type 0} (o key : Bytes) (asking : ClaimedRequest) (r : Result X KeepFault) → IsReading meaning old new r
      → IsHolding meaning old new (By o (Some key) asking) (Err (fault_or_memory r)) []
  held_nothing o key asking r reads = record {
    calls = text_unread r reads;
    tells = tt;
    asks = λ none. refl;
    still = λ now c held. so_unchanging c (By o (Some key) asking) Unavailable ([] ≡ []) refl;
    over = λ now c H held stands lawful. tt;
  }

  -- ---- what asks for no change

  pub held_unchanging : (s : Saying) (text : Result (Vec ℕ) KeepFault) → HoldCalls meaning old new s text → IfOk text (λ text. MayBeReply s text.items)
      → Over meaning old new (λ c H. IfOk text (λ text. IsTold H s text.items)) → ((H : History) → after_saying H s ≡ H)
      → ((H : History) → PutsFor H s []) → IsHolding meaning old new s text []
  held_unchanging s text calls tells told stays puts = record {
    calls = calls;
    tells = tells;
    asks = λ none. refl;
    still = λ now c held. so_unchanging c s (out_of text) ([] ≡ []) refl;
    over = λ now c H held stands lawful. IfOk-weaker text _ _
        (λ found is. record { told = is; leads = subst (ChangesLeadTo c []) (sym (stays H)) (leads_nowhere c H stands); puts = puts H })
        (told now c H held stands lawful);
  }

  -- the text after calls that answered, unless there was no memory for it
  text_read : {X : Type 0} (x : X) → IsReading meaning old new (answered x) → (text : Result (Vec ℕ) KeepFault) → IfErr text (λ fault. fault ≡ Memory)
      → IsReading meaning old new text
  text_read x reads (Ok found) memory = read_ok meaning old new x found reads.goes reads.keeps
  text_read x reads (Err fault) memory =
      subst (λ f. IsReading {X = Vec ℕ} meaning old new (Err f)) (sym memory) (read_memory meaning old new x reads.goes reads.keeps)

  -- the reply names the check that failed if the key is right, and else only says that it is forbidden
  pub held_refused : {X : Type 0} (o key reported : Bytes) (x : X) → IsReading meaning old new (answered x) → (b : Bool)
      → Over meaning old new (λ c H. b ≡ has_owner_key o key H) → (text : Result (Vec ℕ) KeepFault) → IfErr text (λ fault. fault ≡ Memory)
      → IfOk text (λ found. found.items ≡ cond b reported (text_of_failure Forbidden)) → IsHolding meaning old new (By o (Some key) (Fails reported)) text []
  held_refused o key reported x reads b admits text memory is =
      held_unchanging (By o (Some key) (Fails reported)) text (text_read x reads text memory)
      (IfOk-weaker text _ _ (λ found same. (b, tt, same)) is)
      (λ now c H held stands lawful. IfOk-weaker text _ _ (λ found same. (b, admits now c H held stands lawful, same)) is)
      (λ H. refl) (λ H. refl)

-- ---- what calls no keep

module _ {K : Type 0} (meaning : Meaning K) (k : K) (text : Result (Vec ℕ) KeepFault) (memory : IfErr text (λ fault. fault ≡ Memory)) where
  pub held_nobody : (reported : Bytes) → IfOk text (λ found. found.items ≡ reported) → IsHolding meaning k k (Nobody reported) text []
  held_nobody reported is =
      held_unchanging meaning k k (Nobody reported) text (refl, memory) is (λ now c H held stands lawful. is) (λ H. refl) (λ H. refl)

  pub held_keyless : (o : Bytes) (asking : ClaimedRequest) → IfOk text (λ found. found.items ≡ text_of_failure Forbidden)
      → IsHolding meaning k k (By o None asking) text []
  held_keyless o asking is =
      held_unchanging meaning k k (By o None asking) text (refl, memory) is (λ now c H held stands lawful. is) (λ H. refl) (λ H. refl)

-- a text alone is held back without changes
pub held_alone : {K : Type 0} (meaning : Meaning K) (old new : K) (s : Saying) (text : Result (Vec ℕ) KeepFault) (result : Result HeldReply KeepFault)
    → text_held result ≡ text → changes_held result ≡ [] → IsHolding meaning old new s text [] → IsHolding meaning old new s (text_held result) (changes_held result)
held_alone meaning old new s text result same none = subst₂ (λ text changes. IsHolding meaning old new s text changes) (sym same) (sym none)

-- ---- what is held for others, and what is only read

module _ {K : Type 0} (meaning : Meaning K) (old new : K) where
  pub kept_alone : (text : Result (Vec ℕ) KeepFault) (result : Result HeldReply KeepFault) → text_held result ≡ text → KeepsHeld meaning old new text
      → KeepsHeld meaning old new result
  kept_alone text (Ok held) same kept = kept_as meaning old new held.text held (subst (KeepsHeld meaning old new) (sym same) kept)
  kept_alone text (Err fault) same kept = kept_fault meaning old new fault (subst (KeepsHeld meaning old new) (sym same) kept)

  pub read_alone : (text : Result (Vec ℕ) KeepFault) (result : Result HeldReply KeepFault) → text_held result ≡ text → IsReadAtMost meaning old new text
      → IsReadAtMost meaning old new result
  read_alone text result same read = by_result result (subst (IsReadAtMost meaning old new) (sym same) read)
    where
      by_result : (result : Result HeldReply KeepFault) → IsReadAtMost meaning old new (text_held result) → IsReadAtMost meaning old new result
      by_result (Ok held) (inl still) = inl (still.0, tt)
      by_result (Ok held) (inr reads) = inr (read_ok meaning old new held.text held reads.goes reads.keeps)
      by_result (Err fault) (inl still) = inl still
      by_result (Err fault) (inr reads) = inr (read_fault meaning old new fault reads.goes reads.keeps reads.whole)

-- ---- the changes, once they are made

module _ {K : Type 0} (meaning : Meaning K) (rests : Rests meaning) (old middle new : K) (text : Vec ℕ) (changes made : List Change) (same : made ≡ changes)
    (result : Result (Unit {0}) KeepFault) (commit : CommitEffect meaning middle new made result) where
  abbrev Serves : Saying → Type 0
  Serves saying = IsKeepStep meaning saying_steps old saying (text_if text result) new

  -- ---- with a key

  module _ (o key : Bytes) (asking : ClaimedRequest) (valid : IsValidSaying (By o (Some key) asking))
      (holding : IsHolding meaning old middle (By o (Some key) asking) (Ok text) changes) where
    abbrev held_saying : Saying
    held_saying = By o (Some key) asking

    -- the reading, and the step that it is with the changes after it
    held_read : IsReading meaning old middle (answered text)
    held_read = holding.calls

    abbrev told_steps : StepKind Saying (Result (Vec ℕ) KeepFault)
    told_steps =
        answered_steps (λ H s (found : Vec ℕ). IsTold H s found.items) after_saying (λ s r calls. calls ≡ calls_of r) (λ c s r P. IfSayingUnchanging c s (out_of r) P)

    still_told : (c : Content) (P : Type 0) → IfSayingUnchanging c held_saying (Text text) (changes ≡ []) → (r : Result (Unit {0}) KeepFault)
        → (is_ok (finished (answered text) r) ≡ false → P) → (changes ≡ [] → P) → IfSayingUnchanging c held_saying (out_of (finished (answered text) r)) P
    still_told c P still (Ok done) stays none = if_saying_follows c held_saying (Text text) (changes ≡ []) P none still
    still_told c P still (Err fault) stays none = so_unchanging c held_saying Unavailable P (stays refl)

    made_told : IsKeepStep meaning told_steps old held_saying (finished (answered text) result) new
    made_told =
        commit_step meaning rests old middle new (answered text) (finished (answered text) result) changes made result same refl held_read commit
        is_ok (λ fault. refl) (λ is. absurd (false≢true (sym is)))
        (λ H s (found : Vec ℕ). IsTold H s found.items) after_saying held_saying (λ H lawful. lawful_after_saying H held_saying valid lawful)
        (λ now c H held stands lawful. let is = holding.over now c H held stands lawful in (is.told, is.leads)) _ refl _
        (λ now c held P stays none. still_told c P (holding.still now c held) result stays none)

    told_as_step : (r : Result (Unit {0}) KeepFault) → IsKeepStep meaning told_steps old held_saying (finished (answered text) r) new
        → IsKeepStep meaning saying_steps old held_saying (text_if text r) new
    told_as_step (Ok done) step = record {
      outcome = step.outcome;
      calls = (holding.tells, step.calls);
      store = step.store;
      still = step.still;
      over = λ now c H held stands lawful.
          step_as meaning told_steps.step told_steps.may_make saying_steps.step saying_steps.may_make old new c H held_saying (Ok text)
          held_saying (Text text) (λ G step. step.1) (λ G makes. makes) (step.over now c H held stands lawful);
    }
    told_as_step (Err fault) step = record {
      outcome = step.outcome;
      calls = (tt, (fault, step.calls));
      store = step.store;
      still = step.still;
      over = λ now c H held stands lawful.
          step_as meaning told_steps.step told_steps.may_make saying_steps.step saying_steps.may_make old new c H held_saying (Err fault)
          held_saying Unavailable (λ G step. step.1) (λ G makes. makes) (step.over now c H held stands lawful);
    }

    keyed_step : Serves held_saying
    keyed_step = told_as_step result made_told

  -- ---- without a key

  -- the keep isn't called, and there are no changes
  keyless_step : (s : Saying) → middle ≡ old → changes ≡ [] → SayingCalls s (Text text) None → MayBeReply s text.items
      → ((H : History) → IsTold H s text.items × (H ≡ after_saying H s)) → Serves s
  keyless_step s still none called may replies =
      let unmade = commit.idle (same ∙ none) in
      subst₂ (λ r k. IsKeepStep meaning saying_steps old s (text_if text r) k) (sym unmade.1) (sym (unmade.0 ∙ still))
      (uncalled meaning rests old s text.items (Text text) refl called may replies)

  -- the reply that was held back is the reply of the step, once its changes are made
  pub held_step : (s : Saying) → IsValidSaying s → IsHolding meaning old middle s (Ok text) changes → Serves s
  held_step (By o (Some key) asking) valid holding = keyed_step o key asking valid holding
  held_step (By o None asking) valid holding =
      keyless_step (By o None asking) holding.calls.0 (holding.asks refl) refl holding.tells (λ H. (holding.tells, refl))
  held_step (Nobody reported) valid holding =
      keyless_step (Nobody reported) holding.calls.0 (holding.asks refl) refl holding.tells (λ H. (holding.tells, refl))

-- ---- the answer

module _ {K : Type 0} (meaning : Meaning K) (old new : K) (fault : KeepFault) where
  -- what isn't held back has no reply
  untold_step : Rests meaning → (s : Saying) (changes : List Change) → IsHolding meaning old new s (Err fault) changes
      → IsKeepStep meaning saying_steps old s Unavailable new
  untold_step rests (By o (Some key) asking) changes holding = untold meaning rests old new o key asking (Err fault) holding.calls
  untold_step rests (By o None asking) changes holding =
      subst (IsKeepStep meaning saying_steps old (By o None asking) Unavailable) (sym holding.calls.0)
      (uncalled meaning rests old (By o None asking) (text_of_failure Forbidden) Unavailable tt refl refl (λ H. (refl, refl)))
  untold_step rests (Nobody reported) changes holding =
      subst (IsKeepStep meaning saying_steps old (Nobody reported) Unavailable) (sym holding.calls.0)
      (uncalled meaning rests old (Nobody reported) reported Unavailable tt refl refl (λ H. (refl, refl)))

  pub unanswered : Rests meaning → (bytes : Bytes) → IsHeldBack meaning old new bytes (Err fault) → IsAnswered meaning old new bytes Unavailable
  unanswered rests bytes (inl (s, says, holding)) = inl (s, says, untold_step rests s [] holding)
  unanswered rests bytes (inr (lacks, still)) = inr (refl, still)

  pub unanswered_keeps : (os : List Bytes) → IsHeldBackKeeping meaning old new os (Err fault) → IsAnsweredKeeping meaning old new Unavailable
  unanswered_keeps os (inl (kept, puts)) = inl (Err fault, (fault, refl), kept_fault meaning old new fault kept)
  unanswered_keeps os (inr (lacks, still)) = inr (refl, still)

module _ {K : Type 0} (meaning : Meaning K) (old middle new : K) (held : HeldReply) (made : List Change) (same : made ≡ held.changes.items)
    (result : Result (Unit {0}) KeepFault) where
  pub answered_held : Rests meaning → (bytes : Bytes) → IsHeldBack meaning old middle bytes (Ok held) → CommitEffect meaning middle new made result
      → IsAnswered meaning old new bytes (text_if held.text result)
  answered_held rests bytes (inl (s, says, holding)) commit =
      inl (s, says, held_step meaning rests old middle new held.text held.changes.items made same result commit s (says_valid bytes s says) holding)
  answered_held rests bytes (inr (lacks, still)) commit = absurd (cc lacks)

  -- the calls of the keep succeeded if the changes were made
  replied : (r : Result (Unit {0}) KeepFault) → ReplyCalls (text_if held.text r) (Some r)
  replied (Ok done) = refl
  replied (Err fault) = (fault, refl)

  pub answered_keeps : (os : List Bytes) → IsHeldBackKeeping meaning old middle os (Ok held) → (PutsOutside os made → KeepsOneMore meaning middle new result)
      → IsAnsweredKeeping meaning old new (text_if held.text result)
  answered_keeps os (inl (kept, puts)) more =
      inl (result, replied result, more (subst (PutsOutside os) (sym same) puts) old (kept_as meaning old middle held tt kept))
  answered_keeps os (inr (lacks, still)) more = absurd (cc lacks)
