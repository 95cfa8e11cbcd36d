-- The tables that a history gives after one action more.
use Rattle.std.proofs.Common.{◌≡◌, ℕ, suc, ◌+◌, Bool, true, false, cond, Option, Some, is_some, List, ◌∷◌, refl, ap, ◌∙◌, arith}
use Rattle.toll_history.proofs.Common.{sublot_row_of, list_any, option_map, Bytes, same_bytes, count, or_else, where_so, is_some_where, is_actual_of, lot_id, same_bytes-refl, Action, by, History, acts, material_added, material_of, count_materials, test_added, test_of, count_tests, recipe_added, recipe_of, count_recipes, recipe_used, required, requirement_of, count_requirements, order_placed, order_of, count_orders, batch_of, opens, count_opened, lot_made, movement_recorded, movement_of, count_movements, voided_in, count_actuals_of, count_lots, count_sublots, material_used, value_recorded, is_result_of, result_of, latest_value, count_results, count_results_of, OwnerFacts, facts_given, sublot_row, lot_row_made, records_or_voids, IsUnmoved}
use Rattle.toll_history.proofs.Own.{acts-own, acts-other}
use Rattle.toll_history.proofs.Unmoved.{unmoved}

-- one more if the test holds
abbrev pub more : Bool → ℕ → ℕ
more so n = cond so (suc n) n

more_is_sum : (so : Bool) (n : ℕ) → cond so 1 0 + n ≡ more so n
more_is_sum true n = omega arith
more_is_sum false n = omega arith

count_of_more : (p : Action → Bool) (a : Action) (own : List Action) → count p (a ∷ own) ≡ more (p a) (count p own)
count_of_more p a own = more_is_sum (p a) (count p own)

-- an owner's tables, with these as its actions, and with lots and stock as the history has them
abbrev pub tables_from : List Action → Bytes → History → OwnerFacts
tables_from own o H = record {
  material = material_of own;
  materials = count_materials own;
  test = test_of own;
  tests = count_tests own;
  recipe = recipe_of own;
  recipes = count_recipes own;
  requirement = requirement_of own;
  requirements = count_requirements own;
  order = order_of own;
  orders = count_orders own;
  batch = batch_of own;
  lot = λ l. option_map (lot_row_made own l) (lot_made H (lot_id o l));
  lots = count_lots H o;
  sublot = sublot_row H o;
  sublots = count_sublots H o;
  movement = movement_of own;
  movements = count_movements own;
  result = result_of own;
  results = count_results own;
  voided = voided_in own;
  opened = count_opened own;
  actuals = count_actuals_of own;
  results_of = count_results_of own;
  latest = latest_value own;
  recipe_used = recipe_used own;
  material_used = material_used H o;
  any_test = λ such. list_any (λ a. is_some_where such (test_added a)) own;
}

-- the same after one more action: each count is what it was, or one more
abbrev pub tables_after : Action → List Action → Bytes → History → OwnerFacts
tables_after a own o H = record (tables_from (a ∷ own) o H) {
  materials = more (is_some (material_added a)) (count_materials own);
  tests = more (is_some (test_added a)) (count_tests own);
  recipes = more (is_some (recipe_added a)) (count_recipes own);
  requirements = more (is_some (required a)) (count_requirements own);
  orders = more (is_some (order_placed a)) (count_orders own);
  movements = more (is_some (movement_recorded a)) (count_movements own);
  results = more (is_some (value_recorded a)) (count_results own);
  opened = λ order. more (opens order a) (count_opened own order);
  actuals = λ order number. more (is_some_where (λ row. is_actual_of order number row.what) (movement_recorded a)) (count_actuals_of own order number);
  results_of = λ lot test. more (is_result_of lot test a) (count_results_of own lot test);
}

pub after_is : (a : Action) (own : List Action) (o : Bytes) (H : History) → tables_from (a ∷ own) o H ≡ tables_after a own o H
after_is a own o H i = record (tables_from (a ∷ own) o H) {
  materials = count_of_more (λ a. is_some (material_added a)) a own i;
  tests = count_of_more (λ a. is_some (test_added a)) a own i;
  recipes = count_of_more (λ a. is_some (recipe_added a)) a own i;
  requirements = count_of_more (λ a. is_some (required a)) a own i;
  orders = count_of_more (λ a. is_some (order_placed a)) a own i;
  movements = count_of_more (λ a. is_some (movement_recorded a)) a own i;
  results = count_of_more (λ a. is_some (value_recorded a)) a own i;
  opened = λ order. count_of_more (opens order) a own i;
  actuals = λ order number. count_of_more (λ a. is_some_where (λ row. is_actual_of order number row.what) (movement_recorded a)) a own i;
  results_of = λ lot test. count_of_more (is_result_of lot test) a own i;
}

-- ---- actions that record and void nothing

module _ (H : History) (w : Bytes) (a : Action) (none : records_or_voids a ≡ false) where
  grown_still : IsUnmoved H (by w a)
  grown_still = unmoved H w a none

  pub tables-unmoved : (o : Bytes) → facts_given (by w a ∷ H) o ≡ tables_from (acts o (by w a ∷ H)) o H
  tables-unmoved o i = record (tables_from (acts o (by w a ∷ H)) o H) {
    lot = λ l. option_map (lot_row_made (acts o (by w a ∷ H)) l) (grown_still.made i (lot_id o l));
    lots = grown_still.lots i o;
    sublot = λ k. where_so (grown_still.known i (lot_id o k.0) k.1) (sublot_row_of k.0 k.1 (grown_still.stock i (lot_id o k.0) k.1));
    sublots = grown_still.sublots i o;
    material_used = grown_still.used i o;
  }

  -- the owner's tables after its own action
  pub tables-own : facts_given (by w a ∷ H) w ≡ tables_after a (acts w H) w H
  tables-own = tables-unmoved w ∙ ap (λ own. tables_from own w H) (acts-own w (by w a) H (same_bytes-refl w)) ∙ after_is a (acts w H) w H

  -- The tables of other owners stay unchanged.
  pub tables-others : (p : Bytes) → same_bytes w p ≡ false → facts_given (by w a ∷ H) p ≡ facts_given H p
  tables-others p other = tables-unmoved p ∙ ap (λ own. tables_from own p H) (acts-other p (by w a) H other)

-- The first of two options, if its test holds.
pub put_first : {X : Type 0} (b : Bool) (x : X) (rest : Option X) → or_else (where_so b x) rest ≡ cond b (Some x) rest
put_first true x rest = refl
put_first false x rest = refl
