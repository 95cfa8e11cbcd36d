-- Along sublots in the order of their lots: what is passed, and what is left for the lots to come.
use Rattle.std.proofs.Common.{◌≡◌, ℕ, ◌+◌, ◌<◌, ◌≤◌, false, cond, List, [], ◌∷◌, length, get_or, map, refl, sym, ap, subst, ◌∙◌, zero-add, arith}
use Rattle.toll_answers.proofs.Common.{false≢true, nat_list_cmp_total, is_eq, is_gt, ordering_reverse, Ordering, Bytes, bytes_cmp, pair_cmp, Slice, IsInKeyOrder, LotRow, SublotRow, held_in, on_hand_in, IsStrictlySortedBy, Less, Equal, Greater}
use Rattle.std.specs.Cmp.{IsTotalOrder}
use Rattle.std.proofs.lemmas.Cmp.{back_total}
use Rattle.std.proofs.lemmas.List.{get_or-map, length-map}
use Rattle.std.proofs.lemmas.Map.Keys.{Less-from_sorted}
use Rattle.toll_stock.proofs.LotOrder.{first_not_above}

abbrev pub AreInOrder : List SublotRow → Type 0
AreInOrder = IsInKeyOrder pair_cmp (λ row. (row.lot, row.sublot))

-- not above the one, which is below the other: so below the other
up_to_before : {K : Type 0} {R : K → K → Ordering} → IsTotalOrder R → (a b c : K) → is_gt (R a b) ≡ false → R b c ≡ Less → R a c ≡ Less
up_to_before {R = R} o a b c le lt =
    elim (R a b) as (λ r. R a b ≡ r → is_gt r ≡ false → R a c ≡ Less) [
      | Less ↦ λ e _. o.trans a b c e lt
      | Equal ↦ λ e _. o.congr a b c e ∙ lt
      | Greater ↦ λ e h. absurd (false≢true (sym h))
    ] refl le

-- ---- along the sublots of a lot

-- with what is left, the sum makes what these sublots hold of the lot, and of each later lot all is left
pub record IsWalkedTo (lot : Bytes) (sublots : List SublotRow) (sum : ℕ) (left : List SublotRow) : Type 0 where
  pub amount : sum + held_in lot left ≡ held_in lot sublots
  pub later : (l : Bytes) → bytes_cmp lot l ≡ Less → held_in l left ≡ held_in l sublots
  pub order : AreInOrder left

-- what is up to a lot is not of a later one
passed_lot : (row : SublotRow) (rows : List SublotRow) (lot later : Bytes) → is_gt (bytes_cmp row.lot lot) ≡ false → bytes_cmp lot later ≡ Less → held_in later (row ∷ rows) ≡ held_in later rows
passed_lot row rows lot later le lt = ap (λ r. cond (is_eq r) row.amount 0 + held_in later rows) (up_to_before nat_list_cmp_total row.lot lot later le lt) ∙ zero-add _

not_its : (row : SublotRow) (rows : List SublotRow) (lot : Bytes) → bytes_cmp lot row.lot ≡ Less → held_in lot (row ∷ rows) ≡ held_in lot rows
not_its row rows lot lt = ap (λ r. cond (is_eq r) row.amount 0 + held_in lot rows) (nat_list_cmp_total.antisymm row.lot lot ∙ ap ordering_reverse lt) ∙ zero-add _

-- nothing is left of a lot from the first later one on
none_of_later : (row : SublotRow) (rows : List SublotRow) (lot : Bytes) → AreInOrder (row ∷ rows) → bytes_cmp lot row.lot ≡ Less → held_in lot (row ∷ rows) ≡ 0
unfolding IsStrictlySortedBy
none_of_later row [] lot ordered lt = not_its row [] lot lt
none_of_later row (x ∷ xs) lot ordered lt = not_its row (x ∷ xs) lot lt ∙ none_of_later x xs lot ordered.1 (up_to_before (back_total nat_list_cmp_total) x.lot row.lot lot (first_not_above _ _ (ap is_gt ordered.0.0)) lt)

module _ (lot : Bytes) (sublots : List SublotRow) (sum : ℕ) (left : List SublotRow) (walked : IsWalkedTo lot sublots sum left) where
  module _ (row : SublotRow) (rows : List SublotRow) (first : left ≡ row ∷ rows) where
    walk_here : IsWalkedTo lot sublots sum (row ∷ rows)
    walk_here = subst (IsWalkedTo lot sublots sum) first walked

    -- over a sublot that is of no later lot
    pub walked_on : (r : Ordering) → r ≡ bytes_cmp row.lot lot → is_gt r ≡ false → (more : ℕ) → more ≡ sum + cond (is_eq r) row.amount 0 → IsWalkedTo lot sublots more rows
    unfolding IsStrictlySortedBy
    walked_on r is le more adds = record {
      amount =
          let same : cond (is_eq r) row.amount 0 ≡ cond (is_eq (bytes_cmp row.lot lot)) row.amount 0 = ap (λ r. cond (is_eq r) row.amount 0) is in
          let so_far = walk_here.amount in
          omega arith;
      later = λ l lt. sym (passed_lot row rows lot l (ap is_gt (sym is) ∙ le) lt) ∙ walk_here.later l lt;
      order = walk_here.order.1;
    }

    -- up to a sublot of a later lot
    pub walked_by : Greater ≡ bytes_cmp row.lot lot → sum ≡ held_in lot sublots
    walked_by gt =
        let none = none_of_later row rows lot walk_here.order (nat_list_cmp_total.antisymm lot row.lot ∙ ap ordering_reverse (sym gt)) in
        let so_far = walk_here.amount in
        omega arith

  -- to the end
  pub walked_all : length left ≡ 0 → sum ≡ held_in lot sublots
  walked_all none = ended left none walked.amount
    where
      ended : (left : List SublotRow) → length left ≡ 0 → sum + held_in lot left ≡ held_in lot sublots → sum ≡ held_in lot sublots
      ended [] none so_far = omega arith
      ended (row ∷ rows) none so_far = absurd (omega arith)

-- ---- from lot to lot

-- for each of the lots from a place on, these sublots hold what the slice has of it
abbrev pub HoldFrom : Slice → List LotRow → ℕ → List SublotRow → Type 0
HoldFrom s lots i sublots = (k : ℕ) (d : LotRow) → i ≤ k → k < length lots → held_in (get_or lots k d).lot sublots ≡ on_hand_in s (get_or lots k d).lot

module _ (s : Slice) (lots : List LotRow) (i : ℕ) (row : LotRow) (is : row ≡ get_or lots i row) (lt : i < length lots) (sublots : List SublotRow) (hold : HoldFrom s lots i sublots) where
  -- they hold it of the lot at that place
  pub hold_here : held_in row.lot sublots ≡ on_hand_in s row.lot
  hold_here = subst (λ (r : LotRow). held_in r.lot sublots ≡ on_hand_in s r.lot) (sym is) (hold i row (omega arith) lt)

  -- and what is left of them behind that lot holds it of the lots behind it
  pub hold_behind : IsInKeyOrder bytes_cmp (λ row. row.lot) lots → (left : List SublotRow) → ((l : Bytes) → bytes_cmp row.lot l ≡ Less → held_in l left ≡ held_in l sublots) → HoldFrom s lots (i + 1) left
  hold_behind ordered left same k d le here =
      let lot_of = λ (r : LotRow). r.lot in
      let less = Less-from_sorted bytes_cmp (map lot_of lots) i k [] ordered (omega arith) (rw (length-map lots lot_of) here) in
      let first = get_or-map lot_of lots i row [] lt ∙ ap lot_of (sym is) in
      let other = get_or-map lot_of lots k d [] here in
      same (get_or lots k d).lot (rw (first, other) at less) ∙ hold k d (omega arith) here
