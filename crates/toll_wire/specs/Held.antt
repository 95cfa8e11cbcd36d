-- The reply to a request and its changes, before the changes are made.
use Rattle.std.specs.Prelude.{◌≡◌, ◌⊎◌, ℕ, false, MatchBool, List, [], Some, Result, Ok, Err, IfOk, IfErr}
use Rattle.std.specs.Global.{Vec}
use Rattle.toll_answers.specs.Replies.{has_owner_key}
use Rattle.toll_base.specs.declared.decision.Change.{Change}
use Rattle.toll_history.specs.OwnChanges.{PutsOnly}
use Rattle.toll_keep.specs.CallEffects.{IsReading}
use Rattle.toll_keep.specs.HeldFor.{KeepsHeld, PutsOutside}
use Rattle.toll_keep.specs.Meaning.{OverContent}
use Rattle.toll_desk.specs.Plans.{ChangesLeadTo}
use Rattle.toll_desk.specs.Reads.{Over}
use Rattle.toll_wire.specs.Common.{Bytes, History, Meaning, Content, KeepFault, Memory}
use Rattle.toll_wire.specs.OutTexts.{out_of}
use Rattle.toll_wire.specs.Sayings.{Asks, Saying, By, Says, IsTold, MayBeReply, after_saying}
use Rattle.toll_wire.specs.Steps.{IfSayingUnchanging, may_write}
use Rattle.toll_wire.specs.declared.holding.HeldReply.{HeldReply}

-- ---- over rows

-- The changes put rows of the owner whose key it is, and no others. What asks for nothing, or is forbidden, has none.
abbrev pub PutsFor : History → Saying → List Change → Type 0
PutsFor H (By o (Some key) (Asks q)) changes = MatchBool (has_owner_key o key H) (PutsOnly o changes) (changes ≡ [])
PutsFor H _ changes = changes ≡ []

-- The reply over this history has this text, and from this content the changes lead to the history after it.
pub record IsHeld (c : Content) (H : History) (saying : Saying) (text : Bytes) (changes : List Change) : Type 0 where
  pub told : IsTold H saying text
  pub leads : ChangesLeadTo c changes (after_saying H saying)
  pub puts : PutsFor H saying changes

-- ---- over a keep, whatever it holds

-- the text that is held back, or the fault
abbrev pub text_held : Result HeldReply KeepFault → Result (Vec ℕ) KeepFault
text_held (Ok held) = Ok held.text
text_held (Err fault) = Err fault

-- the changes that are held back
abbrev pub changes_held : Result HeldReply KeepFault → List Change
changes_held (Ok held) = held.changes.items
changes_held (Err fault) = []

module _ {K : Type 0} (meaning : Meaning K) (old new : K) where
  -- The keep is only read if the saying has a key, and else not called.
  abbrev pub HoldCalls : Saying → Result (Vec ℕ) KeepFault → Type 0
  HoldCalls (By o (Some key) asking) text = IsReading meaning old new text
  HoldCalls _ text = (new ≡ old) × IfErr text (λ fault. fault ≡ Memory)

  -- The reply to what is said and its changes are held back. The changes are those of the step over whatever history there is.
  pub record IsHolding (saying : Saying) (text : Result (Vec ℕ) KeepFault) (changes : List Change) : Type 0 where
    -- Nothing is changed.
    pub calls : HoldCalls saying text
    -- The reply is one that the saying can have, whatever the keep has.
    pub tells : IfOk text (λ text. MayBeReply saying text.items)
    -- What is to change nothing has no changes, whatever rows there are.
    pub asks : may_write saying ≡ false → changes ≡ []
    pub still : OverContent meaning old new (λ c. IfSayingUnchanging c saying (out_of text) (changes ≡ []))
    -- Over a lawful history the text and the changes are those of the step.
    pub over : Over meaning old new (λ c H. IfOk text (λ text. IsHeld c H saying text.items changes))

  -- What the bytes say is held back; or there was no memory to read them, and the keep is untouched.
  abbrev pub IsHeldBack : Bytes → Result HeldReply KeepFault → Type 0
  IsHeldBack bytes result =
      ((saying : Saying) × Says bytes saying × IsHolding saying (text_held result) (changes_held result)) ⊎ ((result ≡ Err Memory) × (new ≡ old))

  -- What is held for these owners stays, and the changes put rows of others; or there was no memory to read the bytes, and the keep is untouched.
  abbrev pub IsHeldBackKeeping : List Bytes → Result HeldReply KeepFault → Type 0
  IsHeldBackKeeping os result = (KeepsHeld meaning old new result × PutsOutside os (changes_held result)) ⊎ ((result ≡ Err Memory) × (new ≡ old))

  -- The keep is only read; or it isn't called, and the only fault is that there was no memory.
  abbrev pub IsReadAtMost : {X : Type 0} → Result X KeepFault → Type 0
  IsReadAtMost result = ((new ≡ old) × IfErr result (λ fault. fault ≡ Memory)) ⊎ IsReading meaning old new result
