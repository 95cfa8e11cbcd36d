-- What is sent back.
use Rattle.std.specs.Prelude.{◌≡◌, ℕ, Option, Some, None, Result, Ok, Err}
use Rattle.std.specs.Global.{Vec}
use Rattle.toll_wire.specs.Common.{Bytes, KeepFault}
use Rattle.toll_wire.specs.ReplyTexts.{unavailable_text}
use Rattle.toll_wire.specs.declared.outgoing.Out.{Out}
use Rattle.toll_wire.specs.declared.outgoing.Out.TheVariants.{Text, Unavailable}

-- the bytes of a reply
abbrev pub out_bytes : Out → Bytes
out_bytes (Text text) = text.items
out_bytes Unavailable = unavailable_text

-- this text, if there is one, or that there was no memory
abbrev pub IsText : Out → Option Bytes → Type 0
IsText (Text out) (Some text) = out.items ≡ text
IsText (Text out) None = ⊥
IsText Unavailable text = Unit {0}

-- the reply with this text, or without one because of a fault
abbrev pub out_of : Result (Vec ℕ) KeepFault → Out
out_of (Ok text) = Text text
out_of (Err fault) = Unavailable

-- the text once the changes were made, or not
abbrev pub text_if : Vec ℕ → Result (Unit {0}) KeepFault → Out
text_if text (Ok made) = Text text
text_if text (Err fault) = Unavailable
