-- Rows in any order, and rows in an order.
use Rattle.std.specs.Prelude.{◌≡◌, false, ℕ, List, [], ◌∷◌, map, filter}
use Rattle.toll_sql.specs.Common.{Ordering, is_eq, is_lt, match_ordering, Row, column, value_cmp, IsAscending, Text, Bytes}
use Rattle.std.specs.declared.cmp.Ordering.TheVariants.{Less}
use Rattle.toll_sql.specs.Cells.{cells_of}
pub use Rattle.toll_base.specs.Words.{total}

-- Each item is below those after it.
abbrev pub Rises : {X : Type 0} → (X → X → Ordering) → List X → Type 0
Rises cmp = IsAscending (λ a b. cmp a b ≡ Less)

-- No item is below an earlier one.
abbrev pub NeverFalls : {X : Type 0} → (X → X → Ordering) → List X → Type 0
NeverFalls cmp = IsAscending (λ a b. is_lt (cmp b a) ≡ false)

-- the rising list with x at its place, replacing an item that is equal to it
abbrev pub place : {X : Type 0} → (X → X → Ordering) → X → List X → List X
place cmp x [] = x ∷ []
place cmp x (y ∷ ys) = match_ordering (cmp y x) (y ∷ place cmp x ys) (x ∷ ys) (x ∷ y ∷ ys)

-- Each row is as often in the one list as in the other.
abbrev pub SameBag : List Row → List Row → Type 0
SameBag xs ys = (f : Row → ℕ) → total f xs ≡ total f ys

-- the cells of stored rows
abbrev pub all_cells : List Row → List Row
all_cells rows = map cells_of rows

-- the stored rows of this owner
abbrev pub owned_by : Bytes → List Row → List Row
owned_by o rows = filter (λ row. is_eq (value_cmp (column row 1) (Text o))) rows
