-- Rows in the order of their keys, each key once.
use Rattle.std.specs.Prelude.{◌≡◌, ℕ, Bool, ◌||◌, nat_lt, length, Option, Some, None, is_some, List, [], ◌∷◌, map, if◌then◌else◌}
use Rattle.std.specs.List.Sorted.{IsStrictlySortedBy}
use Rattle.std.specs.Ordering.{is_eq, is_lt}
use Rattle.std.specs.declared.cmp.Ordering.{Ordering}

module _ {K R : Type 0} (cmp : K → K → Ordering) (key : R → K) where
  -- each row's key is below those of the rows after it
  abbrev pub IsInKeyOrder : List R → Type 0
  IsInKeyOrder rows = IsStrictlySortedBy cmp (map key rows)

  -- the row with this key
  unfoldable pub row_at : List R → K → Option R
  row_at [] k = None
  row_at (row ∷ rows) k = if is_eq (cmp k (key row)) then Some row else row_at rows k

  -- the rows with this one in place of the first that has its key
  abbrev pub replace_row : List R → R → List R
  replace_row [] new = []
  replace_row (row ∷ rows) new = if is_eq (cmp (key new) (key row)) then new ∷ rows else row ∷ replace_row rows new

  -- the rows with this one before the first that has a greater key
  abbrev pub insert_row : List R → R → List R
  insert_row [] new = new ∷ []
  insert_row (row ∷ rows) new = if is_lt (cmp (key new) (key row)) then new ∷ row ∷ rows else row ∷ insert_row rows new

  -- the rows with this one in place of the one with its key, or added in key order
  unfoldable pub put_row : List R → R → List R
  put_row rows new = if is_some (row_at rows (key new)) then replace_row rows new else insert_row rows new

  -- a row with the key is there, or there is room for one more
  abbrev pub has_room : ℕ → List R → R → Bool
  has_room most rows row = is_some (row_at rows (key row)) || nat_lt (length rows) most

-- the rows that are given at the keys, each once, in the order of the keys
pub record AreRowsGiven {K R : Type 0} (cmp : K → K → Ordering) (key : R → K) (given : K → Option R) (rows : List R) : Type 0 where
  pub ordered : IsInKeyOrder cmp key rows
  pub at : (k : K) → row_at cmp key rows k ≡ given k
