-- A slice that is partly read keeps the rules if the whole slice does.
use Rattle.std.proofs.Common.{◌≡◌, ℕ, zero, suc, ◌+◌, ◌≤◌, Bool, true, false, cond, List, [], ◌∷◌, take, length, Option, Some, is_some, nat_le, refl, arith, Ordering}
use Rattle.toll_sql.proofs.Common.{is_eq, Bytes, bytes_cmp, pair_cmp, Slice, material_at, lot_at, LotRow, SublotRow, KeepsRules, is_actual_of, row_at, count, none_or, front_slice, TableKind, Materials, Tests, Recipes, Requirements, Orders, Batches, Lots, Sublots, Moves, Results, Voids}
use Rattle.toll_base.specs.declared.capacity.TheConstants.{MOST_ACTUALS, MOST_STOCK}
use Rattle.toll_base.proofs.SliceFits.{empty_keeps}

take_at_most : {X : Type 0} (n : ℕ) (xs : List X) → length (take n xs) ≤ length xs
take_at_most zero xs = omega arith
take_at_most (suc n) [] = omega arith
take_at_most (suc n) (x ∷ xs) = omega (arith, take_at_most n xs)

cond_no_more : (b : Bool) (m n : ℕ) → m ≤ n → cond b 1 0 + m ≤ cond b 1 0 + n
cond_no_more true m n le = omega arith
cond_no_more false m n le = omega arith

count_of_take : {X : Type 0} (p : X → Bool) (n : ℕ) (xs : List X) → count p (take n xs) ≤ count p xs
count_of_take p zero xs = omega arith
count_of_take p (suc n) [] = omega arith
count_of_take p (suc n) (x ∷ xs) = cond_no_more (p x) (count p (take n xs)) (count p xs) (count_of_take p n xs)

first_or : {R : Type 0} (b : Bool) (row : R) (p : R → Bool) (all some : Option R) → (none_or p all ≡ true → none_or p some ≡ true) → none_or p (cond b (Some row) all) ≡ true → none_or p (cond b (Some row) some) ≡ true
first_or true row p all some so h = h
first_or false row p all some so h = so h

front_at : {K R : Type 0} (cmp : K → K → Ordering) (key : R → K) (p : R → Bool) (n : ℕ) (rows : List R) (k : K) → none_or p (row_at cmp key rows k) ≡ true → none_or p (row_at cmp key (take n rows) k) ≡ true
unfolding row_at
front_at cmp key p zero rows k h = refl
front_at cmp key p (suc n) [] k h = refl
front_at cmp key p (suc n) (row ∷ rows) k h = first_or (is_eq (cmp k (key row))) row p (row_at cmp key rows k) (row_at cmp key (take n rows) k) (front_at cmp key p n rows k) h

still_short : {X : Type 0} (n : ℕ) (xs : List X) (most : ℕ) → length xs ≤ most → length (take n xs) ≤ most
still_short n xs most le = omega (arith, take_at_most n xs, le)

pub front_keeps : (k : TableKind) (n : ℕ) (s : Slice) → KeepsRules s → KeepsRules (front_slice k n s)
unfolding row_at
front_keeps Materials n s keeps = assumption (still_short n s.materials _ keeps.materials, keeps, empty_keeps s.owner)
front_keeps Tests n s keeps = assumption (still_short n s.tests _ keeps.tests, keeps, empty_keeps s.owner)
front_keeps Recipes n s keeps = assumption (still_short n s.recipes _ keeps.recipes, keeps, empty_keeps s.owner)
front_keeps Requirements n s keeps = assumption (still_short n s.requirements _ keeps.requirements, keeps, empty_keeps s.owner)
front_keeps Orders n s keeps = assumption (still_short n s.orders _ keeps.orders, keeps, empty_keeps s.owner)
front_keeps Batches n s keeps = assumption (keeps, empty_keeps s.owner)
front_keeps Lots n s keeps =
    let lot_materials = λ (k : Bytes). front_at bytes_cmp (λ (row : LotRow). row.lot) (λ row. is_some (material_at s row.material)) n s.lots k (keeps.lot_materials k) in
    assumption (still_short n s.lots _ keeps.lots, lot_materials, keeps, empty_keeps s.owner)
front_keeps Sublots n s keeps =
    let amounts = λ (k : Bytes × Bytes). front_at pair_cmp (λ (row : SublotRow). (row.lot, row.sublot)) (λ row. nat_le row.amount MOST_STOCK) n s.sublots k (keeps.amounts k) in
    let sublot_lots = λ (k : Bytes × Bytes). front_at pair_cmp (λ (row : SublotRow). (row.lot, row.sublot)) (λ row. is_some (lot_at s row.lot)) n s.sublots k (keeps.sublot_lots k) in
    assumption (still_short n s.sublots _ keeps.sublots, amounts, sublot_lots, keeps, empty_keeps s.owner)
front_keeps Moves n s keeps =
    let actuals : (order : Bytes) (number : ℕ) → count (λ row. is_actual_of order number row.what) (take n s.moves) ≤ MOST_ACTUALS = λ order number. omega (arith, count_of_take (λ row. is_actual_of order number row.what) n s.moves, keeps.actuals order number) in
    assumption (still_short n s.moves _ keeps.moves, actuals, keeps, empty_keeps s.owner)
front_keeps Results n s keeps = assumption (still_short n s.results _ keeps.results, keeps, empty_keeps s.owner)
front_keeps Voids n s keeps = assumption keeps
front_keeps _ n s keeps = keeps
