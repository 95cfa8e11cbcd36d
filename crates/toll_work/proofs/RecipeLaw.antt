-- What the adding of a recipe owes.
use Rattle.std.proofs.Common.{[], ◌∷◌, length, refl}
use Rattle.toll_work.proofs.Common.{or_right, AddRecipe, by, Slice, KeepsRules, facts_of, IsDecided, Decides, DecisionKeepsRules, recipe_checks, Put, Decision, Recipe, none_applies, accepted_passes, below_limit, tables-own, MOST_RECIPES}
use Rattle.toll_base.specs.declared.rows.RecipeRow.{RecipeRow}
use Rattle.toll_history.proofs.Naming.{Kind, IsNamedRowAdded, naming_owes}

pub recipe_owes : (own : Slice) (row : RecipeRow) (d : Decision) → IsDecided (recipe_checks (facts_of own) row) (Put own.owner (Recipe row) ∷ []) d → Decides (by own.owner (AddRecipe row)) own d × (KeepsRules own → DecisionKeepsRules own d)
recipe_owes own row d decided =
    let recipes : Kind RecipeRow = record { name = λ row. row.recipe; rows = λ s. s.recipes; row = λ t. t.recipe; count = λ t. t.recipes; with = λ rows count t. record t { recipe = rows; recipes = count } } in
    let added : IsNamedRowAdded recipes row (AddRecipe row) (Recipe row) refl = record { known = λ s. refl; counted = λ s. refl; in_slice = λ s. refl; in_history = λ H o. tables-own H o (AddRecipe row) refl; is_new = λ H o accepted. accepted_passes H o (AddRecipe row) accepted 0 } in
    naming_owes recipes row (AddRecipe row) (Recipe row) refl added own _ d decided (λ H. refl) (λ accepted. or_right _ _ (below_limit MOST_RECIPES (length own.recipes) (none_applies (recipe_checks (facts_of own) row) accepted 1)))
