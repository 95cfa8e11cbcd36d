-- A stored row has the key of some cells if and only if the order of the key finds them equal.
use Rattle.std.proofs.Common.{◌≡◌, ◌≤◌, ℕ, zero, suc, ◌+◌, pos, true, ◌&&◌, List, [], ◌∷◌, length, refl, sym, ap, ap₂, ◌∙◌, arith}
use Rattle.toll_sql.proofs.Common.{false≢true, AllByRecursion, is_eq, and_parts, Kind, Row, column, row_cmp, value_cmp, Value, Int, Text, agree, equal, Column, first_key-plain, plain, first_key, is_eq-then, columns_from, cells_of, fit, is_of_kind, key_order, has_row_key, key_columns, TableKind, Meta}
use Rattle.sqlite.specs.Kind.TheVariants as kind
use Rattle.toll_sql.proofs.PutCommon.{key_equals}
use Rattle.toll_sql.proofs.UpsertLemmas.{equals_int}

-- The cell is a text or a whole number.
abbrev pub IsCell : Value → Type 0
IsCell (Text t) = Unit {0}
IsCell (Int n) = Unit {0}
IsCell _ = ⊥

equal_cells : (v w : Value) → IsCell w → equal (first_key plain).collation v w ≡ is_eq (value_cmp v w)
equal_cells v (Text t) h = key_equals v t
equal_cells v (Int n) h = rw first_key-plain (equals_int v n)
equal_cells v _ h = absurd h

-- consecutive numbers
upto : ℕ → ℕ → List ℕ
upto from zero = []
upto from (suc n) = from ∷ upto (suc from) n

pub column_behind_rowid : (row : Row) (at : ℕ) → column row (suc at) ≡ column (cells_of row) at
column_behind_rowid [] at = refl
column_behind_rowid (v ∷ row) at = refl

agree_is : (at n : ℕ) (row cells : Row) (v : Value) → AllByRecursion IsCell (columns_from at n cells)
    → agree plain (upto (suc at) n) row (upto (suc at) n) (v ∷ cells) ≡ is_eq (row_cmp (columns_from at n (cells_of row)) (columns_from at n cells))
unfolding upto
agree_is at zero row cells v h = refl
agree_is at (suc n) row cells v h =
    ap₂ (λ a b. a && b) (equal_cells (column row (suc at)) (column cells at) h.0 ∙ ap (λ x. is_eq (value_cmp x (column cells at))) (column_behind_rowid row at)) (agree_is (suc at) n row cells v h.1)
    ∙ sym (is_eq-then (value_cmp (column (cells_of row) at) (column cells at)) (row_cmp (columns_from (suc at) n (cells_of row)) (columns_from (suc at) n cells)))

-- ---- cells that fill the columns

one_cell : (k : Kind) (v : Value) → is_of_kind k v ≡ true → IsCell v
one_cell kind.Text (Text t) h = tt
one_cell kind.Integer (Int n) h = tt
one_cell _ _ h = absurd (false≢true h)

pub cells_are : (columns : List Column) (cells : Row) → fit columns cells ≡ true → AllByRecursion IsCell cells
cells_are [] [] h = tt
cells_are [] (v ∷ cells) h = absurd (false≢true h)
cells_are (c ∷ columns) [] h = absurd (false≢true h)
cells_are (c ∷ columns) (v ∷ cells) h = let parts = and_parts _ _ h in (one_cell c.kind v parts.0, cells_are columns cells parts.1)

column_is : (row : Row) (at : ℕ) → suc at ≤ length row → AllByRecursion IsCell row → IsCell (column row at)
column_is [] at lt all = absurd (omega (arith, lt))
column_is (v ∷ row) zero lt all = all.0
column_is (v ∷ row) (suc at) lt all = column_is row at (omega (arith, lt)) all.1

some_cells : (at n : ℕ) (row : Row) → at + n ≤ length row → AllByRecursion IsCell row → AllByRecursion IsCell (columns_from at n row)
some_cells at zero row le all = tt
some_cells at (suc n) row le all = (column_is row at (omega (arith, le)) all, some_cells (suc at) n row (omega (arith, le)) all)

-- ---- the key of a table

keys_are : (k : TableKind) → key_columns k ≡ upto 1 (length (key_columns k))
unfolding upto
keys_are Meta = refl
keys_are _ = refl

module _ (k : TableKind) (cells : Row) (long : length (key_columns k) ≤ length cells) (all : AllByRecursion IsCell cells) where
  pub has_key_is : (row : Row) → has_row_key k cells row ≡ is_eq (key_order k (cells_of row) cells)
  has_key_is row =
      ap (λ keys. agree plain keys row keys (Int (pos 0) ∷ cells)) (keys_are k)
      ∙ agree_is 0 (length (key_columns k)) row cells (Int (pos 0)) (some_cells 0 (length (key_columns k)) cells (omega (arith, long)) all)
