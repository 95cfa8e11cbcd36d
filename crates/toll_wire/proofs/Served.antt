-- Requests that are served, over any keep.
use Rattle.std.proofs.Common.{OnErr, IsTrue, nat_eq, codes, ◌≡◌, ℕ, Bool, true, false, ◌&&◌, [], Some, None, Result, Ok, Err, refl, sym, subst, inl}
use Rattle.toll_wire.proofs.Common.{Vec, starts_with, digits, false≢true, Bytes, History, IsLawful, Meaning, Content, IsReading, Represents, KeepFault, Memory, Request, OwnerReply, ReplyForbidden, ReplyRefused, is_granted, may_change, writes, reply_text, Calls, IsKeepStep, IsStepFrom, StoreEffect, calls_of, Text, Unavailable, fault_or_memory, text_of_reply_meaning, text_if_reply, ClaimedRequest, Asks, Fails, Saying, By, Nobody, IsTold, MayBeReply, after_saying, IfPlacedBefore, IfSayingUnchanging, IsReplyWhere, IsGranted, IsSayingStep, SayingCalls, saying_steps}
use Rattle.toll_keep.proofs.Calls.{Rests, answered, failed_call, kept_as, kept_fault, kept_memory, read_memory, settles_still}
use Rattle.toll_keep.specs.CallEffects.{Keeps}
use Rattle.toll_keep.specs.HeldFor.{KeepsHeld}
use Rattle.toll_desk.specs.Reads.{Over}
use Rattle.toll_desk.proofs.CommitLemmas.{and_false}
use Rattle.toll_desk.proofs.StepLemmas.{store_of}
use Rattle.toll_wire.specs.declared.outgoing.Out.{Out}
use Rattle.toll_wire.specs.OutTexts.{IsText}

-- ---- texts

-- the reply to a request that was granted says 200
granted_text : (reported : OwnerReply) → is_granted (Ok reported) ≡ true → IsTrue (starts_with nat_eq (text_of_reply_meaning reported) (codes "HTTP/1.1 200 "))
unfolding reply_text digits
granted_text ReplyForbidden granted = absurd (false≢true granted)
granted_text (ReplyRefused why) granted = absurd (false≢true granted)
granted_text _ granted = refl

-- so what doesn't say 200 grants no change
pub grants_none : (q : Request) (reported : OwnerReply) (text : Vec ℕ) → text.items ≡ text_of_reply_meaning reported → ¬ (IsGranted (Text text))
    → may_change q (Ok reported) ≡ false
grants_none q reported text is not = by_grant (is_granted (Ok reported)) refl
  where
    by_grant : (b : Bool) → is_granted (Ok reported) ≡ b → (writes q && is_granted (Ok reported)) ≡ false
    by_grant true granted = absurd (not (subst (λ t. IsTrue (starts_with nat_eq t (codes "HTTP/1.1 200 "))) (sym is) (granted_text reported granted)))
    by_grant false granted = rw granted (and_false (writes q))

-- what is so of the one text that there may be is so of the reply
so_of_reply : (out : Out) (text : Bytes) (P : Bytes → Type 0) → IsText out (Some text) → P text → IsReplyWhere P out
so_of_reply (Text reported) text P is so = subst P (sym is) so
so_of_reply Unavailable text P is so = tt

-- what is so at all is so if the saying is to change nothing
pub so_unchanging : (c : Content) (saying : Saying) (out : Out) (P : Type 0) → P → IfSayingUnchanging c saying out P
so_unchanging c saying out P p = record { asks = λ none. p; quiet = λ not. p; once = so_again saying }
  where
    so_again : (saying : Saying) → IfPlacedBefore c saying P
    so_again (By o (Some key) (Asks q)) = λ placing is there. p
    so_again (By o (Some key) (Fails text)) = tt
    so_again (By o None asking) = tt
    so_again (Nobody text) = tt

-- what follows from that is so too
pub if_saying_follows : (c : Content) (s : Saying) (out : Out) (P Q : Type 0) → (P → Q) → IfSayingUnchanging c s out P → IfSayingUnchanging c s out Q
if_saying_follows c s out P Q follows is = record { asks = λ e. follows (is.asks e); quiet = λ e. follows (is.quiet e); once = again s is.once }
  where
    again : (s : Saying) → IfPlacedBefore c s P → IfPlacedBefore c s Q
    again (By o (Some key) (Asks q)) once = λ placing e there. follows (once placing e there)
    again (By o (Some key) (Fails text)) once = tt
    again (By o None asking) once = tt
    again (Nobody text) once = tt

module _ {K : Type 0} (meaning : Meaning K) where
  abbrev Serves : K → K → Saying → Out → Type 0
  Serves old new saying out = IsKeepStep meaning saying_steps old saying out new

  -- ---- what leaves the content

  -- A step that leaves the content and its history.
  pub still_from : {E A : Type 0} (Step : History → E → A → History → Type 0) (MayMake : History → E → History → Type 0) (old new : K) (c : Content) (H : History)
      → Represents c H → IsLawful H → Keeps meaning old new → meaning.holds old c → (e : E) (a : A) → Step H e a H → (G : History) → MayMake H e G
      → IsStepFrom meaning Step MayMake old c H e a new
  still_from Step MayMake old new c H stands lawful keeps held e a step G makes = (
    c,
    H,
    record {
      step = step;
      lawful = lawful;
      held = keeps.content c held;
      stands = stands;
      crash = λ live. (G, makes, record { others = []; stand = tt; left = keeps.crash live c held });
      settled = λ live. inl (keeps.crash live c held);
    },
  )

  -- A keep that isn't called keeps its content.
  pub keeps_still : Rests meaning → (k : K) → meaning.is_honest k → Keeps meaning k k
  keeps_still rests k now = record { content = λ c held. held; crash = λ live c held. rests k c now live held }

  -- The text replies to what is said, which leaves the history.
  abbrev LeavesHistory : History → Saying → Bytes → Type 0
  LeavesHistory H s text = IsTold H s text × (H ≡ after_saying H s)

  -- A reply that leaves the content.
  still_step : (old new : K) (s : Saying) (out : Out) (calls : Calls) → SayingCalls s out calls → StoreEffect meaning old new calls
      → (meaning.is_honest new → Keeps meaning old new) → IsReplyWhere (MayBeReply s) out
      → Over meaning old new (λ c H. IsReplyWhere (LeavesHistory H s) out) → Serves old new s out
  still_step old new s out calls called store keeps tells replies = record {
    outcome = calls;
    calls = (tells, called);
    store = store;
    still = λ now c held. so_unchanging c s out (meaning.holds new c) ((keeps now).content c held);
    over = λ now c H held stands lawful.
        still_from saying_steps.step saying_steps.may_make old new c H stands lawful (keeps now) held s out
        (step_of H out (replies now c H held stands lawful)) (after_saying H s) refl;
  }
    where
      step_of : (H : History) (out : Out) → IsReplyWhere (LeavesHistory H s) out → IsSayingStep H s out H
      step_of H (Text text) step = step
      step_of H Unavailable step = refl

  -- a reply that needs no call of the keep
  pub uncalled : Rests meaning → (k : K) (s : Saying) (text : Bytes) (out : Out) → IsText out (Some text) → SayingCalls s out None → MayBeReply s text
      → ((H : History) → LeavesHistory H s text) → Serves k k s out
  uncalled rests k s text out is called may replies =
      still_step k k s out None called
      (record {
        honest = λ now. now;
        goes = refl;
        settles = settles_still meaning k rests;
        spared = λ none. absurd (cc none);
        whole = λ now c held rules none. (cc none);
      })
      (keeps_still rests k) (so_of_reply out text (MayBeReply s) is may)
      (λ now c H held stands lawful. so_of_reply out text (LeavesHistory H s) is (replies H))

  -- ---- after a reading

  module _ (rests : Rests meaning) (old new : K) where
    read_store : {X : Type 0} (r : Result X KeepFault) → IsReading meaning old new r → StoreEffect meaning old new (calls_of r)
    read_store r reads = store_of meaning old new rests r reads.goes (λ now c held. on_err r ((reads.keeps now).content c held)) reads.whole
      where
        on_err : {X P : Type 0} (r : Result X KeepFault) → P → OnErr r P
        on_err (Ok x) p = tt
        on_err (Err fault) p = p

    -- no reply, after calls that answered or after a fault of one
    pub untold : {X : Type 0} (o key : Bytes) (asking : ClaimedRequest) (r : Result X KeepFault) → IsReading meaning old new r
        → Serves old new (By o (Some key) asking) Unavailable
    untold {X} o key asking r reads = by_reading r reads
      where
        by_fault : (fault : KeepFault) → IsReading meaning old new (failed_call {X = X} fault) → Serves old new (By o (Some key) asking) Unavailable
        by_fault fault reads =
            still_step old new (By o (Some key) asking) Unavailable (Some (Err fault)) (fault, refl) (read_store (failed_call {X = X} fault) reads) reads.keeps
            tt (λ now c H held stands lawful. tt)

        by_reading : (r : Result X KeepFault) → IsReading meaning old new r → Serves old new (By o (Some key) asking) Unavailable
        by_reading (Ok x) reads = by_fault Memory (read_memory meaning old new x reads.goes reads.keeps)
        by_reading (Err fault) reads = by_fault fault reads

  -- ---- what is held for others

  module _ (old new : K) where
    -- after calls that kept it, with the fault that a reply without a text has
    pub kept_untold : {X Y : Type 0} (r : Result X KeepFault) → KeepsHeld meaning old new r → (fault : KeepFault) → fault ≡ fault_or_memory r
        → KeepsHeld {X = Y} meaning old new (Err fault)
    kept_untold {X} {Y} r kept fault is = subst (λ fault. KeepsHeld {X = Y} meaning old new (Err fault)) (sym is) (by_result r kept)
      where
        by_result : (r : Result X KeepFault) → KeepsHeld meaning old new r → KeepsHeld {X = Y} meaning old new (Err (fault_or_memory r))
        by_result (Ok x) kept = kept_memory meaning old new x kept
        by_result (Err fault) kept = kept_fault meaning old new fault kept

    -- after those with a text, whatever is held back with it
    pub kept_told : {Y : Type 0} (planned : Result OwnerReply KeepFault) (text : Vec ℕ) → IsText (Text text) (text_if_reply planned) → KeepsHeld meaning old new planned
        → (y : Y) → KeepsHeld meaning old new (answered y)
    kept_told (Ok reported) text is kept y = kept_as meaning old new reported y kept
    kept_told (Err fault) text is kept y = absurd is
