-- Requests of different owners whose changes are made by one change of the keep. Each is decided over the rows from before the group.
use Rattle.std.specs.Prelude.{◌≡◌, ◌⊎◌, ℕ, Bool, true, false, List, [], ◌∷◌, ◌++◌, length, map, Option, Some, None, Result, Ok, Err}
use Rattle.std.specs.Global.{Vec}
use Rattle.std.specs.List.{list_any}
use Rattle.toll_base.specs.Words.{is_some_where}
use Rattle.toll_base.specs.declared.decision.Change.{Change}
use Rattle.toll_history.specs.Runs.{IsRun}
use Rattle.toll_keep.specs.CallEffects.{CallEffect, FindsNoDamage, IsReading}
use Rattle.toll_keep.specs.HeldFor.{KeepsHeld, PutsOutside}
use Rattle.toll_keep.specs.Meaning.{OverContent}
use Rattle.toll_desk.specs.Reads.{Over}
use Rattle.toll_desk.specs.Steps.{Calls, IsKeepStep, StepKind}
use Rattle.toll_protocol.specs.Parsing.{ParseResult, refused, request}
use Rattle.toll_wire.specs.Common.{AllByRecursion, Bytes, History, Meaning, Content, KeepFault, Memory}
use Rattle.toll_wire.specs.Held.{IsHeld}
use Rattle.toll_wire.specs.Sayings.{Saying, By, Says, MayBeReply, after_saying, claimed_in, claims}
use Rattle.toll_wire.specs.Steps.{IfSayingUnchanging, IsReplyWhere, IsSayingStep, ReplyCalls, may_write}
use Rattle.toll_wire.specs.declared.outgoing.Out.{Out}
use Rattle.toll_wire.specs.declared.outgoing.Out.TheVariants.{Text, Unavailable}
use Rattle.toll_wire.specs.declared.together.GroupEnd.{GroupEnd}
use Rattle.toll_wire.specs.declared.together.GroupEnd.TheVariants.{Done, Undone, Refused}
use Rattle.toll_wire.specs.declared.together.HeldGroup.{HeldGroup}

-- ---- which requests are a group

-- the owner that a parsed request claims, if it claims one
abbrev pub owner_in : ParseResult → Option Bytes
owner_in (refused failure) = None
owner_in (request verb target owner key body) = owner

-- the requests say this, one by one
abbrev pub AreSaid : List Bytes → List Saying → Type 0
AreSaid [] [] = Unit {0}
AreSaid (bytes ∷ requests) (s ∷ sayings) = Says bytes s × AreSaid requests sayings
AreSaid _ _ = ⊥

-- one of these claims the owner that is claimed, if one is
abbrev pub comes_again : List Saying → Option Bytes → Bool
comes_again sayings claimed = is_some_where (λ o. list_any (claims o) sayings) claimed

-- No two of them claim one owner.
abbrev pub AreApart : List Saying → Type 0
AreApart [] = Unit {0}
AreApart (s ∷ sayings) = AllByRecursion (λ later. comes_again (s ∷ []) (claimed_in later) ≡ false) sayings × AreApart sayings

-- the first of these requests, if there is one, claims an owner that one of the sayings claims
abbrev pub ComesAgain : List Saying → List Bytes → Type 0
ComesAgain sayings [] = Unit {0}
ComesAgain sayings (bytes ∷ requests) = (s : Saying) → Says bytes s → comes_again sayings (claimed_in s) ≡ true

-- A group has all requests up to the first that claims an owner again.
pub record IsGroup (requests : List Bytes) (sayings : List Saying) : Type 0 where
  pub first : List Bytes
  pub rest : List Bytes
  pub are : requests ≡ first ++ rest
  pub said : AreSaid first sayings
  pub apart : AreApart sayings
  pub again : ComesAgain sayings rest

-- ---- the step of a group

-- what they make of the history, one after another
abbrev pub after_sayings : History → List Saying → History
after_sayings H [] = H
after_sayings H (s ∷ sayings) = after_sayings (after_saying H s) sayings

-- it claims an owner with a key, so that the keep is called
abbrev pub has_key : Saying → Bool
has_key (By o (Some key) asking) = true
has_key _ = false

-- each reply, if there is one, is one that its saying can have
abbrev pub MayBeReplies : List Saying → List Out → Type 0
MayBeReplies [] [] = Unit {0}
MayBeReplies (s ∷ sayings) (out ∷ outs) = IsReplyWhere (MayBeReply s) out × MayBeReplies sayings outs
MayBeReplies _ _ = ⊥

-- The keep is called if one of them has a key, and else not. If the calls succeeded there are all replies, and else none.
abbrev pub GroupCalls : List Saying → List Out → Calls → Type 0
GroupCalls sayings outs calls =
    ((list_any has_key sayings ≡ true) × AllByRecursion (λ out. ReplyCalls out calls) outs)
    ⊎ ((list_any has_key sayings ≡ false) × (calls ≡ None))

-- this is so if each of them is to change nothing
abbrev pub IfAllUnchanging : Content → List Saying → List Out → Type 0 → Type 0
IfAllUnchanging c (s ∷ sayings) (out ∷ outs) P = IfSayingUnchanging c s out (IfAllUnchanging c sayings outs P)
IfAllUnchanging c _ _ P = P

-- The steps of a group: those of its sayings, one after another. A stop leaves the rows from before all of them or after all of them.
abbrev pub group_steps : StepKind (List Saying) (List Out)
group_steps = record {
  step = IsRun IsSayingStep;
  may_make = λ old sayings new. new ≡ after_sayings old sayings;
  calls = λ sayings outs calls. MayBeReplies sayings outs × GroupCalls sayings outs calls;
  if_still = IfAllUnchanging;
}

-- ---- a group that is held back

-- over this content and history these are the texts of the replies, and the changes of each, in order
abbrev pub AreHeld : Content → History → List Saying → List (Vec ℕ) → List Change → Type 0
AreHeld c H [] [] changes = changes ≡ []
AreHeld c H (s ∷ sayings) (text ∷ texts) changes =
    (first : List Change) × (later : List Change) × (changes ≡ first ++ later) × IsHeld c H s text.items first × AreHeld c H sayings texts later
AreHeld c H _ _ changes = ⊥

module _ {K : Type 0} (meaning : Meaning K) (old new : K) where
  -- The replies are held back, each over the rows that the keep has.
  pub record AreHolding (sayings : List Saying) (texts : List (Vec ℕ)) (changes : List Change) : Type 0 where
    -- Nothing is changed: the keep is only read if one of them has a key, and else not called.
    pub calls : ((list_any has_key sayings ≡ true) × IsReading {X = Unit {0}} meaning old new (Ok tt))
        ⊎ ((list_any has_key sayings ≡ false) × (new ≡ old))
    pub tells : MayBeReplies sayings (map Text texts)
    -- What is to change nothing has no changes, whatever rows there are.
    pub asks : list_any may_write sayings ≡ false → changes ≡ []
    pub still : OverContent meaning old new (λ c. IfAllUnchanging c sayings (map Text texts) (changes ≡ []))
    pub over : Over meaning old new (λ c H. AreHeld c H sayings texts changes)

  -- a call that only reads met this fault; or there was no memory, and the keep is untouched
  abbrev pub IsUndone : KeepFault → Type 0
  IsUndone fault = ((new ≡ old) × (fault ≡ Memory)) ⊎ IsReading {X = Unit {0}} meaning old new (Err fault)

  -- the group of these requests is held back, or nothing was done
  abbrev pub IsGroupHeld : List Bytes → Result HeldGroup KeepFault → Type 0
  IsGroupHeld requests (Ok group) = (sayings : List Saying) × IsGroup requests sayings × AreHolding sayings group.replies.items group.changes.items
  IsGroupHeld requests (Err fault) = IsUndone fault

  -- The making of the changes met this fault. It makes none if none of them may write.
  pub record IsGroupRefused (sayings : List Saying) (fault : KeepFault) : Type 0 where
    pub writes : list_any may_write sayings ≡ true
    pub goes : CallEffect {X = Unit {0}} meaning old new (Err fault)
    pub whole : FindsNoDamage {X = Unit {0}} meaning old new (Err fault)

  -- The group of these requests was served in one step, and each got its reply, or none after a fault of the change; or nothing was done.
  abbrev pub IsGroupServed : List Bytes → GroupEnd → Type 0
  IsGroupServed requests (Done replies) =
      (sayings : List Saying) × IsGroup requests sayings × IsKeepStep meaning group_steps old sayings (map Text replies.items) new
  IsGroupServed requests (Undone fault) = IsUndone fault
  IsGroupServed requests (Refused count fault) =
      (sayings : List Saying) × IsGroup requests sayings × (count ≡ length sayings)
      × IsKeepStep meaning group_steps old sayings (map (λ s. Unavailable) sayings) new × IsGroupRefused sayings fault

-- ---- requests of other owners

-- the changes of a group that is held back
abbrev pub changes_together : Result HeldGroup KeepFault → List Change
changes_together (Ok group) = group.changes.items
changes_together (Err fault) = []

-- whether the calls of the keep succeeded
abbrev pub outcome_of : GroupEnd → Result (Unit {0}) KeepFault
outcome_of (Done replies) = Ok tt
outcome_of (Undone fault) = Err fault
outcome_of (Refused count fault) = Err fault

module _ {K X : Type 0} (meaning : Meaning K) (old new : K) (result : Result X KeepFault) where
  -- What is held for these owners stays, and the changes put rows of others; or the keep is untouched, and there are no changes.
  abbrev pub AreHeldKeeping : List Bytes → List Change → Type 0
  AreHeldKeeping os changes = (KeepsHeld meaning old new result × PutsOutside os changes) ⊎ ((new ≡ old) × (changes ≡ []))

  -- What is held stays, and a stop leaves it: the calls of the keep kept it, whatever they answered; or the keep is untouched.
  abbrev pub LeavesHeld : Type 0
  LeavesHeld = KeepsHeld meaning old new result ⊎ (new ≡ old)
