-- The input of a script.
use Rattle.std.specs.Prelude.{◌≡◌, ◌+◌, ◌≤◌, ℕ, Option, length}
use Rattle.toll_programs.specs.Common.{Consumes, IsAtEnd, Bytes}
use Rattle.toll_programs.specs.declared.input.TheConstants.{SCRIPT_LIMIT}

-- how many bytes a script may have
abbrev pub script_limit : ℕ
script_limit = SCRIPT_LIMIT

-- The input is all that the reader had left, up to its end, and no longer than a script may be.
pub record IsWholeInput (old new : Option Bytes) (input : Bytes) : Type 0 where
  pub given : Consumes old new input
  pub ended : IsAtEnd new
  pub short : length input ≤ script_limit

-- The reader had more than a script may have, and gave one byte more than the limit.
abbrev pub IsTooLong : Option Bytes → Option Bytes → Type 0
IsTooLong old new = (front : Bytes) × Consumes old new front × (length front ≡ script_limit + 1)
