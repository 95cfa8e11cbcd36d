-- What is so once a request was served.
use Rattle.std.specs.Prelude.{◌≡◌, ◌⊎◌, Bool, false, Some, None, Result, Ok, Err, IsTrue, nat_eq, codes}
use Rattle.toll_wire.specs.Common.{Bytes, History, Meaning, Content, KeepFault, Memory, writes, starts_with}
use Rattle.toll_keep.specs.CallEffects.{CallEffect, FindsNoDamage}
use Rattle.toll_keep.specs.HeldFor.{KeepsHeld}
use Rattle.toll_desk.specs.Clauses.{IfPlacedAgain}
use Rattle.toll_desk.specs.Steps.{Calls, IsKeepStep, StepKind}
use Rattle.toll_wire.specs.declared.outgoing.Out.{Out}
use Rattle.toll_wire.specs.declared.outgoing.Out.TheVariants.{Text, Unavailable}
use Rattle.toll_wire.specs.Sayings.{Asks, Saying, By, Says, IsTold, MayBeReply, after_saying}

-- what is said asks for a change
abbrev pub may_write : Saying → Bool
may_write (By o (Some key) (Asks q)) = writes q
may_write _ = false

-- this is so if the saying has a key and asks to place an order that its owner has already
abbrev pub IfPlacedBefore : Content → Saying → Type 0 → Type 0
IfPlacedBefore c (By o (Some key) (Asks q)) P = IfPlacedAgain (c.rows o) q P
IfPlacedBefore c _ P = Unit {0}

-- ---- the reply

-- the reply, if there is one, is such a text
abbrev pub IsReplyWhere : (Bytes → Type 0) → Out → Type 0
IsReplyWhere P (Text text) = P text.items
IsReplyWhere P Unavailable = Unit {0}

-- a reply that says 200
abbrev pub IsGranted : Out → Type 0
IsGranted (Text text) = IsTrue (starts_with nat_eq text.items (codes "HTTP/1.1 200 "))
IsGranted Unavailable = ⊥

-- ---- one step

-- The reply over the first history has this text, and what is said leads to the second. Without a reply the history stays.
abbrev pub IsSayingStep : History → Saying → Out → History → Type 0
IsSayingStep old saying (Text text) new = IsTold old saying text.items × (new ≡ after_saying old saying)
IsSayingStep old saying Unavailable new = new ≡ old

-- There is a reply if the calls of the keep succeeded, and none if one met a fault or there was no memory.
abbrev pub ReplyCalls : Out → Calls → Type 0
ReplyCalls (Text text) calls = calls ≡ Some (Ok tt)
ReplyCalls Unavailable calls = (fault : KeepFault) × (calls ≡ Some (Err fault))

-- The keep is called if the saying has a key, and else not.
abbrev pub SayingCalls : Saying → Out → Calls → Type 0
SayingCalls (By o (Some key) asking) out calls = ReplyCalls out calls
SayingCalls _ out calls = calls ≡ None

-- This is so if the saying is to change nothing: it asks for no change, its reply isn't 200, or it places an order that is there.
pub record IfSayingUnchanging (c : Content) (saying : Saying) (out : Out) (P : Type 0) : Type 0 where
  pub asks : may_write saying ≡ false → P
  pub quiet : ¬ (IsGranted out) → P
  pub once : IfPlacedBefore c saying P

-- The steps of what is said. The reply is one that the saying can have, whatever the keep has.
abbrev pub saying_steps : StepKind Saying Out
saying_steps = record {
  step = IsSayingStep;
  may_make = λ old saying new. new ≡ after_saying old saying;
  calls = λ saying out calls. IsReplyWhere (MayBeReply saying) out × SayingCalls saying out calls;
  if_still = IfSayingUnchanging;
}

module _ {K : Type 0} (meaning : Meaning K) (old new : K) where
  -- a call of the keep met this fault, which is never damage if the rows keep the rules; or there was no memory, and the keep is untouched
  abbrev pub IsFaultMet : KeepFault → Type 0
  IsFaultMet fault =
      ((new ≡ old) × (fault ≡ Memory)) ⊎ (CallEffect {X = Unit {0}} meaning old new (Err fault) × FindsNoDamage {X = Unit {0}} meaning old new (Err fault))

  -- What the bytes say was served in one step; or there was no memory to read them, and the keep is untouched.
  abbrev pub IsAnswered : Bytes → Out → Type 0
  IsAnswered bytes out =
      ((saying : Saying) × Says bytes saying × IsKeepStep meaning saying_steps old saying out new) ⊎ ((out ≡ Unavailable) × (new ≡ old))

  -- What is held stays, and a stop leaves it: the calls of the keep kept it, whatever they answered; or there was no memory to read the bytes,
  -- and the keep is untouched.
  abbrev pub IsAnsweredKeeping : Out → Type 0
  IsAnsweredKeeping out =
      ((outcome : Result (Unit {0}) KeepFault) × ReplyCalls out (Some outcome) × KeepsHeld meaning old new outcome) ⊎ ((out ≡ Unavailable) × (new ≡ old))
