-- The order of a table's key is that of the rows' keys.
use Rattle.std.proofs.Common.{◌≡◌, ℕ, pos, refl, ap, ◌∙◌, arith, Ordering, Less, Equal, Greater}
use Rattle.toll_sql.proofs.Common.{IsTotalOrder, ordering_then, nat_cmp, int_cmp, nat_tests, on_total, tied_itself, value_cmp, Int, Text, row_cmp_total, value_cmp_total, value_cmp-Int, value_cmp-Text, Bytes, bytes_cmp, pair_cmp, batch_cmp, result_cmp, requirement_cmp, role_number, MoveRow, BatchRow, LotRow, MaterialRow, OrderRow, OwnerRow, RecipeRow, RequirementRow, ResultRow, SublotRow, TestRow, UnitRow, VoidRow, key_cells, key_order, owner_cells, unit_cells, material_cells, test_cells, recipe_cells, requirement_cells, order_cells, batch_cells, lot_cells, sublot_cells, move_cells, result_cells, void_cells, TableKind, Owners, Units, Materials, Tests, Recipes, Requirements, Orders, Batches, Lots, Sublots, Moves, Results, Voids}

pub key_order_total : (k : TableKind) → IsTotalOrder (key_order k)
key_order_total k = on_total (key_cells k) row_cmp_total

then_end : (r : Ordering) → ordering_then r Equal ≡ r
then_end Less = refl
then_end Equal = refl
then_end Greater = refl

then_assoc : (a b c : Ordering) → ordering_then a (ordering_then b c) ≡ ordering_then (ordering_then a b) c
then_assoc Less b c = refl
then_assoc Equal b c = refl
then_assoc Greater b c = refl

text_tied : (o : Bytes) → value_cmp (Text o) (Text o) ≡ Equal
text_tied o = tied_itself value_cmp_total (Text o)

order_alike : (m n : ℕ) → int_cmp (pos m) (pos n) ≡ nat_cmp m n
order_alike m n = grind (arith, nat_tests)

numbers : (m n : ℕ) → value_cmp (Int (pos m)) (Int (pos n)) ≡ nat_cmp m n
numbers m n = value_cmp-Int (pos m) (pos n) ∙ order_alike m n

pub owners_order : (a b : OwnerRow) → key_order Owners (owner_cells a) (owner_cells b) ≡ bytes_cmp a.owner b.owner
owners_order a b = rw (value_cmp-Text a.owner b.owner) (then_end (bytes_cmp a.owner b.owner))

pub units_order : (a b : UnitRow) → key_order Units (unit_cells a) (unit_cells b) ≡ bytes_cmp a.unit b.unit
units_order a b = rw (value_cmp-Text a.unit b.unit) (then_end (bytes_cmp a.unit b.unit))

module _ (o : Bytes) where
  one_column_order : (x y : Bytes) → ordering_then (value_cmp (Text o) (Text o)) (ordering_then (value_cmp (Text x) (Text y)) Equal) ≡ bytes_cmp x y
  one_column_order x y = rw (text_tied o, value_cmp-Text x y) (then_end (bytes_cmp x y))

  pub materials_order : (a b : MaterialRow) → key_order Materials (material_cells o a) (material_cells o b) ≡ bytes_cmp a.material b.material
  materials_order a b = one_column_order a.material b.material

  pub tests_order : (a b : TestRow) → key_order Tests (test_cells o a) (test_cells o b) ≡ pair_cmp (a.material, a.test) (b.material, b.test)
  tests_order a b = rw (text_tied o, value_cmp-Text a.material b.material, value_cmp-Text a.test b.test) (ap (ordering_then (bytes_cmp a.material b.material)) (then_end (bytes_cmp a.test b.test)))

  pub recipes_order : (a b : RecipeRow) → key_order Recipes (recipe_cells o a) (recipe_cells o b) ≡ bytes_cmp a.recipe b.recipe
  recipes_order a b = one_column_order a.recipe b.recipe

  pub requirements_order : (a b : RequirementRow) → key_order Requirements (requirement_cells o a) (requirement_cells o b)
      ≡ requirement_cmp (a.recipe, a.segment, a.role, a.source, a.material) (b.recipe, b.segment, b.role, b.source, b.material)
  requirements_order a b =
      let p = bytes_cmp a.recipe b.recipe in
      let q = nat_cmp a.segment b.segment in
      let r = nat_cmp (role_number a.role) (role_number b.role) in
      let s = bytes_cmp a.source b.source in
      let t = bytes_cmp a.material b.material in
      rw (text_tied o, value_cmp-Text a.recipe b.recipe, numbers a.segment b.segment, numbers (role_number a.role) (role_number b.role), value_cmp-Text a.source b.source, value_cmp-Text a.material b.material)
      (ap (λ u. ordering_then p (ordering_then q (ordering_then r (ordering_then s u)))) (then_end t) ∙ then_assoc p q (ordering_then r (ordering_then s t)) ∙ then_assoc (ordering_then p q) r (ordering_then s t)
      ∙ then_assoc (ordering_then (ordering_then p q) r) s t)

  pub orders_order : (a b : OrderRow) → key_order Orders (order_cells o a) (order_cells o b) ≡ bytes_cmp a.order b.order
  orders_order a b = one_column_order a.order b.order

  pub batches_order : (a b : BatchRow) → key_order Batches (batch_cells o a) (batch_cells o b) ≡ batch_cmp (a.order, a.number) (b.order, b.number)
  batches_order a b = rw (text_tied o, value_cmp-Text a.order b.order, numbers a.number b.number) (ap (ordering_then (bytes_cmp a.order b.order)) (then_end (nat_cmp a.number b.number)))

  pub lots_order : (a b : LotRow) → key_order Lots (lot_cells o a) (lot_cells o b) ≡ bytes_cmp a.lot b.lot
  lots_order a b = one_column_order a.lot b.lot

  pub sublots_order : (a b : SublotRow) → key_order Sublots (sublot_cells o a) (sublot_cells o b) ≡ pair_cmp (a.lot, a.sublot) (b.lot, b.sublot)
  sublots_order a b = rw (text_tied o, value_cmp-Text a.lot b.lot, value_cmp-Text a.sublot b.sublot) (ap (ordering_then (bytes_cmp a.lot b.lot)) (then_end (bytes_cmp a.sublot b.sublot)))

  pub moves_order : (a b : MoveRow) → key_order Moves (move_cells o a) (move_cells o b) ≡ bytes_cmp a.key b.key
  moves_order a b = one_column_order a.key b.key

  pub results_order : (a b : ResultRow) → key_order Results (result_cells o a) (result_cells o b) ≡ result_cmp (a.lot, a.test, a.number) (b.lot, b.test, b.number)
  results_order a b =
      rw (text_tied o, value_cmp-Text a.lot b.lot, value_cmp-Text a.test b.test, numbers a.number b.number)
      (ap (λ u. ordering_then (bytes_cmp a.lot b.lot) (ordering_then (bytes_cmp a.test b.test) u)) (then_end (nat_cmp a.number b.number)) ∙ then_assoc (bytes_cmp a.lot b.lot) (bytes_cmp a.test b.test) (nat_cmp a.number b.number))

  pub voids_order : (a b : VoidRow) → key_order Voids (void_cells o a) (void_cells o b) ≡ bytes_cmp a.key b.key
  voids_order a b = one_column_order a.key b.key
