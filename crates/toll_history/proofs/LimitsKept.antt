-- Every lawful history is within the limits of each kind of rows.
use Rattle.std.proofs.Common.{◌≡◌, ℕ, ◌+◌, ◌≤◌, Bool, true, false, ◌&&◌, ◌||◌, ◌==◌, cond, nat_le, is_some, is_none, [], ◌∷◌, refl, sym, ap, subst, ◌∙◌, arith}
use Rattle.toll_history.proofs.Common.{false≢true, not-false, or_parts, nat_tests, Bytes, same_bytes, count, is_some_where, is_actual_of, lot_id, Consumed, Produced, Move, Receive, Split, Ship, Scrap, Actual, both, same_bytes-exact, nat_eq-exact, same_bytes-symm, Action, AddOwner, AddUnit, AddMaterial, AddTest, AddRecipe, Require, PlaceOrder, Record, RecordResult, by, History, acts, adds_owner, count_owners, adds_some_unit, count_units, material_added, test_added, recipe_added, required, order_placed, movement_recorded, movements, count_movements, count_actuals_of, first_made, lot_made, makes_lot, makes_sublot, count_lots, count_sublots, value_recorded, lot_row, Accepted, IsLawful, verdict, IsWithinLimits}
use Rattle.toll_history.proofs.Passed.{accepted_passes, MoveFits, move_fits}
use Rattle.toll_history.proofs.Acts.{along_acts, count_acts}
use Rattle.toll_history.proofs.Moving.{crosses_not, lot_row_none}
use Rattle.toll_base.specs.declared.capacity.TheConstants.{MOST_ACTUALS, MOST_LOTS, MOST_MATERIALS, MOST_MOVEMENTS, MOST_ORDERS, MOST_OWNERS, MOST_RECIPES, MOST_REQUIREMENTS, MOST_RESULTS, MOST_TESTS, MOST_UNITS}

within_with_one : (is : Bool) (limit n : ℕ) → n ≤ limit → (is ≡ true → nat_le limit n ≡ false) → cond is 1 0 + n ≤ limit
within_with_one true limit n le room = let h = room refl in grind (arith, nat_tests)
within_with_one false limit n le room = omega arith

-- ---- kinds of actions

-- a kind of an owner's actions, each of which was accepted while there was room
module _ (is_kind : Action → Bool) (limit : ℕ) (o : Bytes) (room : (H : History) (a : Action) → verdict H (by o a) ≡ Accepted → is_kind a ≡ true → nat_le limit (count is_kind (acts o H)) ≡ false) where
  pub limited : (H : History) → IsLawful H → count is_kind (acts o H) ≤ limit
  limited H lawful = along_acts (λ own. count is_kind own ≤ limit) o (omega arith) (λ H a lawful valid accepted le. within_with_one (is_kind a) limit (count is_kind (acts o H)) le (room H a accepted)) H lawful

module _ (o : Bytes) where
  material_room : (H : History) (a : Action) → verdict H (by o a) ≡ Accepted → is_some (material_added a) ≡ true → nat_le MOST_MATERIALS (count (λ a. is_some (material_added a)) (acts o H)) ≡ false
  material_room H (AddMaterial row) accepted is = accepted_passes H o (AddMaterial row) accepted 1
  material_room H _ accepted is = absurd (false≢true is)

  test_room : (H : History) (a : Action) → verdict H (by o a) ≡ Accepted → is_some (test_added a) ≡ true → nat_le MOST_TESTS (count (λ a. is_some (test_added a)) (acts o H)) ≡ false
  test_room H (AddTest row) accepted is = accepted_passes H o (AddTest row) accepted 3
  test_room H _ accepted is = absurd (false≢true is)

  recipe_room : (H : History) (a : Action) → verdict H (by o a) ≡ Accepted → is_some (recipe_added a) ≡ true → nat_le MOST_RECIPES (count (λ a. is_some (recipe_added a)) (acts o H)) ≡ false
  recipe_room H (AddRecipe row) accepted is = accepted_passes H o (AddRecipe row) accepted 1
  recipe_room H _ accepted is = absurd (false≢true is)

  requirement_room : (H : History) (a : Action) → verdict H (by o a) ≡ Accepted → is_some (required a) ≡ true → nat_le MOST_REQUIREMENTS (count (λ a. is_some (required a)) (acts o H)) ≡ false
  requirement_room H (Require row) accepted is = accepted_passes H o (Require row) accepted 6
  requirement_room H _ accepted is = absurd (false≢true is)

  order_room : (H : History) (a : Action) → verdict H (by o a) ≡ Accepted → is_some (order_placed a) ≡ true → nat_le MOST_ORDERS (count (λ a. is_some (order_placed a)) (acts o H)) ≡ false
  order_room H (PlaceOrder placing) accepted is = accepted_passes H o (PlaceOrder placing) accepted 3
  order_room H _ accepted is = absurd (false≢true is)

  result_room : (H : History) (a : Action) → verdict H (by o a) ≡ Accepted → is_some (value_recorded a) ≡ true → nat_le MOST_RESULTS (count (λ a. is_some (value_recorded a)) (acts o H)) ≡ false
  result_room H (RecordResult lot test value day) accepted is = accepted_passes H o (RecordResult lot test value day) accepted 3
  result_room H _ accepted is = absurd (false≢true is)

  -- ---- movements

  limit_move_room : (H : History) (what : Move) (amount : ℕ) → MoveFits H o what amount → nat_le MOST_MOVEMENTS (count_movements (acts o H)) ≡ false
  limit_move_room H (Receive material lot sublot) amount fits = (or_parts (nat_le MOST_MOVEMENTS (count_movements (acts o H))) _ (fits 4)).0
  limit_move_room H (Split lot sublot target) amount fits = fits 4
  limit_move_room H (Ship lot sublot) amount fits = fits 4
  limit_move_room H (Scrap lot sublot) amount fits = fits 3
  limit_move_room H (Actual order number segment Consumed material lot sublot) amount fits = (or_parts (nat_le MOST_MOVEMENTS (count_movements (acts o H))) _ (fits 12)).0
  limit_move_room H (Actual order number segment Produced material lot sublot) amount fits = (or_parts (nat_le MOST_MOVEMENTS (count_movements (acts o H))) _ (or_parts (nat_le MOST_MOVEMENTS (count_movements (acts o H)) || nat_le MOST_ACTUALS (count_actuals_of (acts o H) order number)) _ (fits 10)).0).0

  movement_room : (H : History) (a : Action) → verdict H (by o a) ≡ Accepted → is_some (movement_recorded a) ≡ true → nat_le MOST_MOVEMENTS (count (λ a. is_some (movement_recorded a)) (acts o H)) ≡ false
  movement_room H (Record row) accepted is = limit_move_room H row.what row.amount (move_fits H o row accepted)
  movement_room H _ accepted is = absurd (false≢true is)

  pub movements_kept : (H : History) → IsLawful H → count_movements (acts o H) ≤ MOST_MOVEMENTS
  movements_kept = limited (λ a. is_some (movement_recorded a)) MOST_MOVEMENTS o movement_room

  batch_room : (H : History) (what : Move) (amount : ℕ) → MoveFits H o what amount → (order : Bytes) (number : ℕ) → is_actual_of order number what ≡ true → nat_le MOST_ACTUALS (count_actuals_of (acts o H) order number) ≡ false
  batch_room H (Actual order' number' segment Consumed material lot sublot) amount fits order number is =
      let parts = both (same_bytes order order') (number == number') is in
      ap (λ (k : Bytes × ℕ). nat_le MOST_ACTUALS (count_actuals_of (acts o H) k.0 k.1)) (λ i. (same_bytes-exact order order' parts.0 i, nat_eq-exact number number' parts.1 i))
      ∙ (or_parts (nat_le MOST_MOVEMENTS (count_movements (acts o H))) (nat_le MOST_ACTUALS (count_actuals_of (acts o H) order' number')) (fits 12)).1
  batch_room H (Actual order' number' segment Produced material lot sublot) amount fits order number is =
      let parts = both (same_bytes order order') (number == number') is in
      ap (λ (k : Bytes × ℕ). nat_le MOST_ACTUALS (count_actuals_of (acts o H) k.0 k.1)) (λ i. (same_bytes-exact order order' parts.0 i, nat_eq-exact number number' parts.1 i))
      ∙ (or_parts (nat_le MOST_MOVEMENTS (count_movements (acts o H))) (nat_le MOST_ACTUALS (count_actuals_of (acts o H) order' number')) (or_parts (nat_le MOST_MOVEMENTS (count_movements (acts o H)) || nat_le MOST_ACTUALS (count_actuals_of (acts o H) order' number')) _ (fits 10)).0).1
  batch_room H _ amount fits order number is = absurd (false≢true is)

  actual_room : (order : Bytes) (number : ℕ) (H : History) (a : Action) → verdict H (by o a) ≡ Accepted → is_some_where (λ row. is_actual_of order number row.what) (movement_recorded a) ≡ true → nat_le MOST_ACTUALS (count_actuals_of (acts o H) order number) ≡ false
  actual_room order number H (Record row) accepted is = batch_room H row.what row.amount (move_fits H o row accepted) order number is
  actual_room order number H _ accepted is = absurd (false≢true is)

-- ---- owners and units

-- A kind of actions of all owners, each of which was accepted while there was room.
module _ (is_kind : Action → Bool) (limit : ℕ) (room : (H : History) (o : Bytes) (a : Action) → verdict H (by o a) ≡ Accepted → is_kind a ≡ true → nat_le limit (count (λ c. is_kind c.action) H) ≡ false) where
  limited_for_all : (H : History) → IsLawful H → count (λ c. is_kind c.action) H ≤ limit
  limited_for_all [] lawful = omega arith
  limited_for_all (c ∷ H) lawful = within_with_one (is_kind c.action) limit (count (λ c. is_kind c.action) H) (limited_for_all H lawful.0) (room H c.owner c.action lawful.2)

owner_room : (H : History) (o : Bytes) (a : Action) → verdict H (by o a) ≡ Accepted → adds_owner a ≡ true → nat_le MOST_OWNERS (count_owners H) ≡ false
owner_room H o (AddOwner key) accepted is = accepted_passes H o (AddOwner key) accepted 1
owner_room H o _ accepted is = absurd (false≢true is)

pub owners_kept : (H : History) → IsLawful H → count_owners H ≤ MOST_OWNERS
owners_kept = limited_for_all adds_owner MOST_OWNERS owner_room

unit_room : (H : History) (o : Bytes) (a : Action) → verdict H (by o a) ≡ Accepted → adds_some_unit a ≡ true → nat_le MOST_UNITS (count_units H) ≡ false
unit_room H o (AddUnit unit) accepted is = accepted_passes H o (AddUnit unit) accepted 1
unit_room H o _ accepted is = absurd (false≢true is)

pub units_kept : (H : History) → IsLawful H → count_units H ≤ MOST_UNITS
units_kept = limited_for_all adds_some_unit MOST_UNITS unit_room

-- ---- lots and sublots

-- If the second is true, and neither the first nor the second with the third is, then the third is false.
full_of : (moves none full : Bool) → none ≡ true → (moves || none && full) ≡ false → full ≡ false
full_of true none full is h = absurd (false≢true (sym h))
full_of false true full is h = h
full_of false false full is h = absurd (false≢true is)

limit_lot_room : (H : History) (o : Bytes) (what : Move) (amount : ℕ) → MoveFits H o what amount → makes_lot o what (movements H) ≡ true → nat_le MOST_LOTS (count_lots H o) ≡ false
unfolding lot_made
limit_lot_room H o (Receive material lot sublot) amount fits makes = full_of _ (is_none (lot_row H o lot)) _ (lot_row_none H o lot ∙ makes) (fits 4)
limit_lot_room H o (Actual order number segment Produced material lot sublot) amount fits makes =
    let mine = same_bytes-exact lot.owner o (not-false _ (crosses_not H o order number segment Produced material lot sublot amount fits)) in
    full_of _ (is_none (lot_row H o lot.lot)) _ (lot_row_none H o lot.lot ∙ ap (λ w. is_none (first_made (lot_id w lot.lot) (movements H))) (sym mine) ∙ makes) (fits 10)
limit_lot_room H o _ amount fits makes = absurd (false≢true makes)

limit_lot_step : (H : History) (w o : Bytes) (a : Action) → verdict H (by w a) ≡ Accepted → count_lots H o ≤ MOST_LOTS → count_lots (by w a ∷ H) o ≤ MOST_LOTS
unfolding count_lots
limit_lot_step H w o (Record row) accepted le =
    within_with_one (same_bytes o w && makes_lot w row.what (movements H)) MOST_LOTS (count_lots H o) le
    (λ is. let parts = both (same_bytes o w) _ is in ap (λ x. nat_le MOST_LOTS (count_lots H x)) (same_bytes-exact o w parts.0) ∙ limit_lot_room H w row.what row.amount (move_fits H w row accepted) parts.1)
limit_lot_step H w o a accepted le = le

pub lots_kept : (H : History) (o : Bytes) → IsLawful H → count_lots H o ≤ MOST_LOTS
unfolding count_lots
lots_kept [] o lawful = omega arith
lots_kept (c ∷ H) o lawful = limit_lot_step H c.owner o c.action lawful.2 (lots_kept H o lawful.0)

fewer_than_moves : (own makes : Bool) (n moves : ℕ) → n ≤ moves → cond (own && makes) 1 0 + n ≤ cond (own && true) 1 0 + moves
fewer_than_moves true true n moves le = omega arith
fewer_than_moves true false n moves le = omega arith
fewer_than_moves false makes n moves le = omega arith

-- A movement makes at most one sublot.
sublot_step : (H : History) (w o : Bytes) (a : Action) → count_sublots H o ≤ count_movements (acts o H) → count_sublots (by w a ∷ H) o ≤ count_movements (acts o (by w a ∷ H))
unfolding count_sublots
sublot_step H w o (Record row) le =
    subst (λ n. cond (same_bytes o w && makes_sublot w row.what (movements H)) 1 0 + count_sublots H o ≤ n)
    (ap (λ b. cond (b && true) 1 0 + count_movements (acts o H)) (same_bytes-symm o w) ∙ sym (count_acts (λ a. is_some (movement_recorded a)) o (by w (Record row)) H))
    (fewer_than_moves (same_bytes o w) (makes_sublot w row.what (movements H)) (count_sublots H o) (count_movements (acts o H)) le)
sublot_step H w o a le = omega (arith, count_acts (λ a. is_some (movement_recorded a)) o (by w a) H)

pub sublots_of_moves : (H : History) (o : Bytes) → count_sublots H o ≤ count_movements (acts o H)
unfolding count_sublots
sublots_of_moves [] o = omega arith
sublots_of_moves (c ∷ H) o = sublot_step H c.owner o c.action (sublots_of_moves H o)

pub limits_kept : (H : History) (o : Bytes) → IsLawful H → IsWithinLimits H o
limits_kept H o lawful = record {
  materials = limited (λ a. is_some (material_added a)) MOST_MATERIALS o (material_room o) H lawful;
  tests = limited (λ a. is_some (test_added a)) MOST_TESTS o (test_room o) H lawful;
  recipes = limited (λ a. is_some (recipe_added a)) MOST_RECIPES o (recipe_room o) H lawful;
  requirements = limited (λ a. is_some (required a)) MOST_REQUIREMENTS o (requirement_room o) H lawful;
  orders = limited (λ a. is_some (order_placed a)) MOST_ORDERS o (order_room o) H lawful;
  lots = lots_kept H o lawful;
  sublots = let le = sublots_of_moves H o in let most = movements_kept o H lawful in omega arith;
  movements = movements_kept o H lawful;
  results = limited (λ a. is_some (value_recorded a)) MOST_RESULTS o (result_room o) H lawful;
  actuals = λ order number. limited (λ a. is_some_where (λ row. is_actual_of order number row.what) (movement_recorded a)) MOST_ACTUALS o (actual_room o order number) H lawful;
}
