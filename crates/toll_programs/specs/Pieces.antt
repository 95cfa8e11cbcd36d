-- The pieces of a text.
use Rattle.std.specs.Prelude.{ℕ, Bool, ◌==◌, List, length}
use Rattle.toll_programs.specs.Common.{slice_split, Bytes}

-- the pieces of the text before, between and after the bytes of this kind
abbrev pub pieces_at : ℕ → Bytes → List Bytes
pieces_at byte text = slice_split (λ b. b == byte) text

-- whether there are no bytes at all
abbrev pub is_empty : Bytes → Bool
is_empty text = length text == 0
