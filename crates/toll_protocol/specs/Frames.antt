-- Frames.
use Rattle.std.specs.Prelude.{◌≡◌, ℕ, ◌+◌, ◌≤◌, ◌<◌, ◌⊎◌, ◌++◌, length, take, nat_lt, Option, Some, None, if◌then◌else◌}
use Rattle.std.specs.Int.{from_be_bytes, to_be_bytes, w32}
use Rattle.toll_base.specs.Bytes.{Bytes}
use Rattle.toll_protocol.specs.declared.frames.encoding.TheConstants.{LENGTH_BYTES}

-- the frame of a content: its length in four bytes, the highest first, and the content
abbrev pub frame : Bytes → Bytes
frame content = to_be_bytes w32 (length content) ++ content

-- The text begins with a frame whose content has at most this many bytes, and this rest follows it.
abbrev pub HasFrame : ℕ → Bytes → Bytes → Bytes → Type 0
HasFrame most text content rest = (text ≡ frame content ++ rest) × (length content ≤ most)

-- The beginning of the text can be read only as this content, with this rest after it.
abbrev pub HasOnlyFrame : ℕ → Bytes → Bytes → Bytes → Type 0
HasOnlyFrame most text content rest = (other behind : Bytes) → HasFrame most text other behind → (content ≡ other) × (rest ≡ behind)

-- The text is the frame of a content of at most this many bytes.
abbrev pub IsFrameOf : ℕ → Bytes → Bytes → Type 0
IsFrameOf most text content = (text ≡ frame content) × (length content ≤ most)

-- the length that the first bytes claim, once they are there
abbrev pub claimed_length : Bytes → Option ℕ
claimed_length text = if nat_lt (length text) LENGTH_BYTES then None else Some (from_be_bytes w32 (take LENGTH_BYTES text))

abbrev pub IsThere : ℕ → Option ℕ → Bytes → Type 0
IsThere most None text = ⊥
IsThere most (Some len) text = (most < len) ⊎ (len + LENGTH_BYTES ≤ length text)

-- A whole frame is there, or a length that is above the limit.
abbrev pub IsEnough : ℕ → Bytes → Type 0
IsEnough most text = IsThere most (claimed_length text) text

-- No shorter prefix of the text is enough.
abbrev pub NoPartIsEnough : ℕ → Bytes → Type 0
NoPartIsEnough most text = (n : ℕ) → n < length text → ¬ (IsEnough most (take n text))
