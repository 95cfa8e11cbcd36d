-- The test of a row is exactly whether the rules hold after it is put.
use Rattle.std.proofs.Common.{◌≡◌, ℕ, ◌+◌, ◌≤◌, Bool, true, false, ◌||◌, is_some, Some, cond, nat_le, nat_lt, refl, sym, ap, ◌∙◌, arith, IsTrue, ◌↔◌}
use mathlib.Core.Bool.{or-true}
use Rattle.toll_base.proofs.Common.{false≢true, nat_list_cmp_total, nat_tests, Bytes, bytes_cmp, row_at, is_some_where, none_or, KeepsRules, row_fits, batch_has_room, is_actual_of, count_actuals}
use Rattle.toll_base.specs.Keys.{pair_cmp, result_cmp, requirement_cmp}
use Rattle.toll_base.specs.declared.rows.SublotRow.{SublotRow}
use Rattle.toll_base.specs.Slice.{Slice, empty_slice, with_row, material_at, lot_at, sublot_at, move_at}
use Rattle.toll_base.specs.declared.movement.MoveRow.{MoveRow}
use Rattle.toll_base.specs.declared.movement.Move.{Move as Moved}
use Rattle.toll_base.specs.declared.movement.Move.TheVariants.{Actual}
use Rattle.toll_base.specs.declared.rows.Row.{Row}
use Rattle.toll_base.specs.declared.rows.Row.TheVariants.{Material, Test, Recipe, Requirement, Order, Batch, Lot, Sublot, Move, Result, Void}
use Rattle.toll_base.proofs.Bools.{both, and_is, all_three}
use Rattle.toll_base.proofs.Texts.{pair_cmp_total, result_cmp_total, requirement_cmp_total}
use Rattle.toll_base.proofs.ActualCountLemmas.{same_along, own_batch}
use Rattle.toll_base.proofs.PutRules.{rule_room, room_back, none_or_more, still_there, each_put, new_of_each, count-put_row}
use Rattle.toll_base.specs.declared.capacity.TheConstants.{MOST_ACTUALS, MOST_LOTS, MOST_MATERIALS, MOST_MOVEMENTS, MOST_ORDERS, MOST_RECIPES, MOST_REQUIREMENTS, MOST_RESULTS, MOST_STOCK, MOST_SUBLOTS, MOST_TESTS}

-- ---- the actuals of a batch

-- how many there are after the put, by whether the old row and the new one are of the batch
count_kept : (old new : Bool) (n after : ℕ) → cond old 1 0 + after ≡ cond new 1 0 + n → n ≤ MOST_ACTUALS → (new ≡ true → (nat_lt n MOST_ACTUALS || old) ≡ true) → after ≤ MOST_ACTUALS
count_kept old false n after is le h = omega arith
count_kept true true n after is le h = omega arith
count_kept false true n after is le h = let full = h refl in grind (arith, nat_tests)

had : (old : Bool) (n after : ℕ) → cond old 1 0 + after ≡ 1 + n → after ≤ MOST_ACTUALS → (nat_lt n MOST_ACTUALS || old) ≡ true
had true n after is le = or-true (nat_lt n MOST_ACTUALS)
had false n after is le = grind (arith, nat_tests)

module _ (s : Slice) where
  -- this batch has room for the movement with this key
  abbrev has_room_for : Bytes → Bytes → ℕ → Bool
  has_room_for key order number = nat_lt (count_actuals order number s.moves) MOST_ACTUALS || is_some_where (λ row. is_actual_of order number row.what) (move_at s key)

  room_along : (key : Bytes) (what : Moved) (order : Bytes) (number : ℕ) → batch_has_room s key what ≡ true → is_actual_of order number what ≡ true → has_room_for key order number ≡ true
  room_along key (Actual o n segment role material lot sublot) order number h is = same_along (λ o' n'. has_room_for key o' n' ≡ true) order o number n is h
  room_along key _ order number h is = absurd (false≢true is)

  counts_put : (row : MoveRow) (order : Bytes) (number : ℕ) → cond (is_some_where (λ r. is_actual_of order number r.what) (move_at s row.key)) 1 0 + count_actuals order number (with_row s (Move row)).moves ≡ cond (is_actual_of order number row.what) 1 0 + count_actuals order number s.moves
  counts_put row order number = count-put_row bytes_cmp nat_list_cmp_total (λ r. r.key) (λ r. is_actual_of order number r.what) s.moves row

  room_back_of : (row : MoveRow) (what : Moved) → row.what ≡ what → KeepsRules (with_row s (Move row)) → batch_has_room s row.key what ≡ true
  room_back_of row (Actual o n segment role material lot sublot) is after =
      let own : is_actual_of o n row.what ≡ true = ap (is_actual_of o n) is ∙ own_batch o n in
      had _ _ _ (counts_put row o n ∙ ap (λ b. cond b 1 0 + count_actuals o n s.moves) own) (after.actuals o n)
  room_back_of row _ is after = refl

  -- ---- a row that fits keeps the rules

  module _ (keeps : KeepsRules s) where
    pub fits_keeps : (row : Row) → row_fits s row ≡ true → KeepsRules (with_row s row)
    fits_keeps (Material row) h =
        let materials = rule_room bytes_cmp nat_list_cmp_total (λ r. r.material) MOST_MATERIALS s.materials row keeps.materials h in
        let lot_materials = λ (k : Bytes). none_or_more _ _ (lot_at s k) (λ lot. still_there bytes_cmp nat_list_cmp_total (λ r. r.material) s.materials row lot.material) (keeps.lot_materials k) in
        assumption (materials, lot_materials, keeps)
    fits_keeps (Test row) h = assumption (rule_room pair_cmp pair_cmp_total (λ r. (r.material, r.test)) MOST_TESTS s.tests row keeps.tests h, keeps)
    fits_keeps (Recipe row) h = assumption (rule_room bytes_cmp nat_list_cmp_total (λ r. r.recipe) MOST_RECIPES s.recipes row keeps.recipes h, keeps)
    fits_keeps (Requirement row) h = assumption (rule_room requirement_cmp requirement_cmp_total (λ r. (r.recipe, r.segment, r.role, r.source, r.material)) MOST_REQUIREMENTS s.requirements row keeps.requirements h, keeps)
    fits_keeps (Order row) h = assumption (rule_room bytes_cmp nat_list_cmp_total (λ r. r.order) MOST_ORDERS s.orders row keeps.orders h, keeps)
    fits_keeps (Batch row) h = assumption keeps
    fits_keeps (Lot row) h =
        let parts = both _ (is_some (material_at s row.material)) h in
        let lots = rule_room bytes_cmp nat_list_cmp_total (λ r. r.lot) MOST_LOTS s.lots row keeps.lots parts.0 in
        let lot_materials = each_put bytes_cmp nat_list_cmp_total (λ r. r.lot) (λ r. is_some (material_at s r.material)) s.lots row keeps.lot_materials parts.1 in
        let sublot_lots = λ (k : Bytes × Bytes). none_or_more _ _ (sublot_at s k) (λ sublot. still_there bytes_cmp nat_list_cmp_total (λ r. r.lot) s.lots row sublot.lot) (keeps.sublot_lots k) in
        assumption (lots, lot_materials, sublot_lots, keeps)
    fits_keeps (Sublot row) h =
        let parts = all_three _ (nat_le row.amount MOST_STOCK) (is_some (lot_at s row.lot)) h in
        let sublots = rule_room pair_cmp pair_cmp_total (λ r. (r.lot, r.sublot)) MOST_SUBLOTS s.sublots row keeps.sublots parts.0 in
        let amounts = each_put pair_cmp pair_cmp_total (λ r. (r.lot, r.sublot)) (λ r. nat_le r.amount MOST_STOCK) s.sublots row keeps.amounts parts.1 in
        let sublot_lots = each_put pair_cmp pair_cmp_total (λ r. (r.lot, r.sublot)) (λ r. is_some (lot_at s r.lot)) s.sublots row keeps.sublot_lots parts.2 in
        assumption (sublots, amounts, sublot_lots, keeps)
    fits_keeps (Move row) h =
        let parts = both _ (batch_has_room s row.key row.what) h in
        let moves = rule_room bytes_cmp nat_list_cmp_total (λ r. r.key) MOST_MOVEMENTS s.moves row keeps.moves parts.0 in
        let actuals = λ (order : Bytes) (number : ℕ). count_kept _ (is_actual_of order number row.what) _ _ (counts_put row order number) (keeps.actuals order number) (room_along row.key row.what order number parts.1) in
        assumption (moves, actuals, keeps)
    fits_keeps (Result row) h = assumption (rule_room result_cmp result_cmp_total (λ r. (r.lot, r.test, r.number)) MOST_RESULTS s.results row keeps.results h, keeps)
    fits_keeps (Void row) h = assumption keeps

  -- ---- and one that keeps them fits

  pub keeps_fits : (row : Row) → KeepsRules (with_row s row) → row_fits s row ≡ true
  keeps_fits (Material row) after = room_back bytes_cmp nat_list_cmp_total (λ r. r.material) MOST_MATERIALS s.materials row after.materials
  keeps_fits (Test row) after = room_back pair_cmp pair_cmp_total (λ r. (r.material, r.test)) MOST_TESTS s.tests row after.tests
  keeps_fits (Recipe row) after = room_back bytes_cmp nat_list_cmp_total (λ r. r.recipe) MOST_RECIPES s.recipes row after.recipes
  keeps_fits (Requirement row) after = room_back requirement_cmp requirement_cmp_total (λ r. (r.recipe, r.segment, r.role, r.source, r.material)) MOST_REQUIREMENTS s.requirements row after.requirements
  keeps_fits (Order row) after = room_back bytes_cmp nat_list_cmp_total (λ r. r.order) MOST_ORDERS s.orders row after.orders
  keeps_fits (Batch row) after = refl
  keeps_fits (Lot row) after =
      and_is _ _ (room_back bytes_cmp nat_list_cmp_total (λ r. r.lot) MOST_LOTS s.lots row after.lots)
      (new_of_each bytes_cmp nat_list_cmp_total (λ r. r.lot) (λ r. is_some (material_at s r.material)) s.lots row after.lot_materials)
  keeps_fits (Sublot row) after =
      and_is _ _ (and_is _ _ (room_back pair_cmp pair_cmp_total (λ r. (r.lot, r.sublot)) MOST_SUBLOTS s.sublots row after.sublots)
      (new_of_each pair_cmp pair_cmp_total (λ r. (r.lot, r.sublot)) (λ r. nat_le r.amount MOST_STOCK) s.sublots row after.amounts))
      (new_of_each pair_cmp pair_cmp_total (λ r. (r.lot, r.sublot)) (λ r. is_some (lot_at s r.lot)) s.sublots row after.sublot_lots)
  keeps_fits (Move row) after = and_is _ _ (room_back bytes_cmp nat_list_cmp_total (λ r. r.key) MOST_MOVEMENTS s.moves row after.moves) (room_back_of row row.what refl after)
  keeps_fits (Result row) after = room_back result_cmp result_cmp_total (λ r. (r.lot, r.test, r.number)) MOST_RESULTS s.results row after.results
  keeps_fits (Void row) after = refl

pub empty_keeps : (o : Bytes) → KeepsRules (empty_slice o)
unfolding row_at
empty_keeps o = record {
  materials = omega arith;
  tests = omega arith;
  recipes = omega arith;
  requirements = omega arith;
  orders = omega arith;
  lots = omega arith;
  sublots = omega arith;
  moves = omega arith;
  results = omega arith;
  actuals = λ order number. omega arith;
  lot_materials = λ k. refl;
  amounts = λ k. refl;
  sublot_lots = λ k. refl;
}

pub owner-with_row : (s : Slice) (row : Row) → (with_row s row).owner ≡ s.owner
owner-with_row s (Material row) = refl
owner-with_row s (Test row) = refl
owner-with_row s (Recipe row) = refl
owner-with_row s (Requirement row) = refl
owner-with_row s (Order row) = refl
owner-with_row s (Batch row) = refl
owner-with_row s (Lot row) = refl
owner-with_row s (Sublot row) = refl
owner-with_row s (Move row) = refl
owner-with_row s (Result row) = refl
owner-with_row s (Void row) = refl

pub fits_exact : (s : Slice) (row : Row) → KeepsRules s → IsTrue (row_fits s row) ↔ KeepsRules (with_row s row)
fits_exact s row keeps = (fits_keeps s keeps row, keeps_fits s row)

-- no more is in a sublot than a slice keeps
pub amount_bound : (s : Slice) → KeepsRules s → (k : Bytes × Bytes) (row : SublotRow) → sublot_at s k ≡ Some row → row.amount ≤ MOST_STOCK
amount_bound s keeps k row found = let h : nat_le row.amount MOST_STOCK ≡ true = ap (none_or (λ (r : SublotRow). nat_le r.amount MOST_STOCK)) (sym found) ∙ keeps.amounts k in grind (arith, nat_tests)
