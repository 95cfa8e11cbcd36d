-- Lines of columns.
use Rattle.std.specs.Prelude.{ℕ, ◌-◌, List, [], ◌∷◌, ◌++◌, length, replicate, codes}
use Rattle.toll_base.specs.Bytes.{Bytes}

-- so many blanks
abbrev pub blanks : ℕ → Bytes
blanks n = replicate n 32

-- in a column of this width, at its left or at its right; what is longer than the column stays whole
unfoldable pub left_aligned : ℕ → Bytes → Bytes
left_aligned width text = text ++ blanks (width - length text)

unfoldable pub right_aligned : ℕ → Bytes → Bytes
right_aligned width text = blanks (width - length text) ++ text

-- a line of columns: one blank between two of them, and LF behind the last
abbrev pub column_line : List Bytes → Bytes
column_line [] = codes "\n"
column_line (text ∷ []) = text ++ codes "\n"
column_line (text ∷ more) = text ++ (codes " " ++ column_line more)
