-- Putting a row into a table by its key.
use Rattle.std.specs.Prelude.{◌≡◌, ◌≢◌, ◌⊎◌, ℕ, Bool, true, false, List, ◌∷◌, IsPermutation}
use Rattle.toll_sql.specs.Common.{AllByRecursion, Row, Schema, Trees, IsShaped}
use Rattle.sqlite_trees.specs.declared.store.Shape.TheVariants as shape
use Rattle.toll_sql.specs.Bag.{all_cells}

-- The one row with the key has these cells now, and all others are unchanged; or there was none, and the row is added.
abbrev pub ReplacesOrAdds : (Row → Bool) → Row → List Row → List Row → Type 0
ReplacesOrAdds has_key cells old new = (was : Row) × (rest : List Row) × (has_key was ≡ true) × IsPermutation old (was ∷ rest) × IsPermutation (cells ∷ all_cells rest) (all_cells new)

abbrev pub IsRowAdded : (Row → Bool) → Row → List Row → List Row → Type 0
IsRowAdded has_key cells old new = AllByRecursion (λ r. has_key r ≡ false) old × IsPermutation (cells ∷ all_cells old) (all_cells new)

pub record Puts (schema : Schema) (tree : ℕ) (has_key : Row → Bool) (cells : Row) (old new : Trees) : Type 0 where
  pub here : ReplacesOrAdds has_key cells (old tree) (new tree) ⊎ IsRowAdded has_key cells (old tree) (new tree)
  pub others : AllByRecursion (λ t. t.tree ≢ tree → new t.tree ≡ old t.tree) schema.tables
  pub shaped : IsShaped shape.Table (new tree)
