-- A slice's view of a batch is the view of every lawful history whose rows it has.
use Rattle.std.proofs.Common.{◌≡◌, ℕ, Bool, true, false, not, ◌&&◌, cond, Option, Some, None, is_some, refl, sym, ap, subst, ◌∙◌}
use Rattle.toll_work.proofs.Common.{option_and_then, is_eq, ordering_then, Ordering, Bytes, same_bytes, bytes_cmp, RequirementKey, requirement_cmp, IsInKeyOrder, AreRowsGiven, where_so, History, acts, Slice, order_at, batch_at, void_at, is_actual_of, standing, voided_in, OwnerFacts, IsRowsOf, IsLawful, requirement_key, BatchRow, OrderRow, MoveRow, RequirementRow, both, same_bytes-exact, is_eq-then, meets_requirement, actual_amount, total-kept, total-alike}
use Rattle.toll_work.specs.BatchView.{amount_for, standing_in, line_for, lines_in, IsViewIn, IsViewOfSlice, line_of, line_key, IsViewOver, IsViewOfHistories}
use Rattle.toll_work.specs.declared.views.BatchView.{BatchView}
use Rattle.toll_work.proofs.KeyedRows.{keyed_made_at, keyed_made_ordered}
use Rattle.toll_work.proofs.StandingSums.{of_owner, sum_of_rows}

-- Keys that compare equal are of one recipe.
pub tied_first : (a b : Ordering) → is_eq (ordering_then a b) ≡ true → is_eq a ≡ true
tied_first a b tied = (both (is_eq a) (is_eq b) (sym (is_eq-then a b) ∙ tied)).0

same_recipe : (k l : RequirementKey) → is_eq (requirement_cmp k l) ≡ true → k.0 ≡ l.0
same_recipe k l tied = same_bytes-exact k.0 l.0 (tied_first _ _ (tied_first _ _ (tied_first _ _ (tied_first _ _ tied))))

-- ---- one sum

counted_so : (a v r : Bool) (n : ℕ) → cond (a && not v) (cond r n 0) 0 ≡ cond v 0 (cond (a && r) n 0)
counted_so true true r n = refl
counted_so true false r n = refl
counted_so false true r n = refl
counted_so false false r n = refl

served_so : (mine a r : Bool) (n : ℕ) → cond mine (cond (a && r) n 0) 0 ≡ cond (mine && a && r) n 0
served_so true a r n = refl
served_so false a r n = refl

module _ (s : Slice) (H : History) (lawful : IsLawful H) (there : IsRowsOf H s) (moves_ordered : IsInKeyOrder bytes_cmp (λ row. row.key) s.moves) (order : Bytes) (number : ℕ) where
  -- the amount that the batch did of a requirement
  view_done_of : (row : RequirementRow) → amount_for row (standing_in s order number) ≡ actual_amount H s.owner order number row
  unfolding actual_amount
  view_done_of row =
      total-kept (λ move. is_actual_of order number move.what && not (is_some (void_at s move.key))) (λ move. cond (meets_requirement row move.what) move.amount 0) s.moves
      ∙ total-alike _ (λ move. cond (voided_in (acts s.owner H) move.key) 0 (amount move)) s.moves
      (λ move. counted_so (is_actual_of order number move.what) (is_some (void_at s move.key)) (meets_requirement row move.what) move.amount
      ∙ ap (λ (t : OwnerFacts). cond (t.voided move.key) 0 (amount move)) there)
      ∙ sum_of_rows s.owner H lawful amount s.moves moves_ordered (λ k. ap (λ (t : OwnerFacts). t.movement k) there)
      ∙ total-alike (of_owner s.owner amount) _ (standing H) (λ m. served_so (same_bytes m.0 s.owner) (is_actual_of order number m.1.what) (meets_requirement row m.1.what) m.1.amount)
    where
      amount : MoveRow → ℕ
      amount move = cond (is_actual_of order number move.what && meets_requirement row move.what) move.amount 0

  module _ (ordered : IsInKeyOrder requirement_cmp requirement_key s.requirements) where
    lines_given : (recipe : Bytes) → AreRowsGiven requirement_cmp line_key (line_of H s.owner order number recipe) (lines_in s recipe (standing_in s order number))
    lines_given recipe = record {
      ordered = keyed_made_ordered requirement_cmp requirement_key (λ row. line_for row (standing_in s order number)) line_key (λ row. refl) of_recipe alike s.requirements ordered;
      at = λ k.
          keyed_made_at requirement_cmp requirement_key (λ row. line_for row (standing_in s order number)) line_key (λ row. refl) of_recipe alike s.requirements k
          ∙ (λ i. option_and_then (λ row. where_so (same_bytes row.recipe recipe) (record { row = row; actual = view_done_of row i })) ((there i).requirement k));
    }
      where
        of_recipe : RequirementKey → Bool
        of_recipe k = same_bytes k.0 recipe

        alike : (k l : RequirementKey) → is_eq (requirement_cmp k l) ≡ true → of_recipe k ≡ of_recipe l
        alike k l tied = ap (λ r. same_bytes r recipe) (same_recipe k l tied)

    view_over_rows : (known : Option OrderRow) (row : Option BatchRow) (view : Option BatchView) → IsViewIn s order number known row view → IsViewOver H s.owner order number known row view
    view_over_rows (Some known) (Some row) (Some view) is = (is.0, subst (AreRowsGiven requirement_cmp line_key (line_of H s.owner order number known.recipe)) (sym is.1) (lines_given known.recipe))
    view_over_rows (Some known) (Some row) None is = is
    view_over_rows (Some known) None None is = is
    view_over_rows (Some known) None (Some view) is = is
    view_over_rows None row None is = is
    view_over_rows None row (Some view) is = is

pub view_over : (s : Slice) (order : Bytes) (number : ℕ) (view : Option BatchView) → IsInKeyOrder bytes_cmp (λ row. row.key) s.moves → IsInKeyOrder requirement_cmp requirement_key s.requirements →
    IsViewOfSlice s order number view → IsViewOfHistories s order number view
unfolding IsViewOfHistories
view_over s order number view moves_ordered ordered is H lawful there =
    subst (λ (t : OwnerFacts). IsViewOver H s.owner order number (t.order order) (t.batch (order, number)) view) there
    (view_over_rows s H lawful there moves_ordered order number ordered (order_at s order) (batch_at s (order, number)) view is)
