-- Rows whose keys begin with their lots are in the order of their lots.
use Rattle.std.proofs.Common.{◌≡◌, zero, suc, ◌+◌, false, List, [], ◌∷◌, refl, ap, ◌∙◌, arith}
use Rattle.toll_stock.proofs.Common.{nat_list_cmp_total, IsStrictlySortedBy, IsSortedByKey, is_lt, is_gt, ordering_then, ordering_reverse, Ordering, Less, Equal, Greater, Bytes, bytes_cmp, pair_cmp, result_cmp, IsInKeyOrder, ResultRow, SublotRow}

-- The first comparison isn't greater if the whole one isn't.
pub first_not_above : (r s : Ordering) → is_gt (ordering_then r s) ≡ false → is_gt r ≡ false
first_not_above Less s h = refl
first_not_above Equal s h = refl
first_not_above Greater s h = h

not_less_reversed : (r : Ordering) → is_gt r ≡ false → is_lt (ordering_reverse r) ≡ false
not_less_reversed Less h = refl
not_less_reversed Equal h = refl
not_less_reversed Greater h = h

module _ {K R : Type 0} (cmp : K → K → Ordering) (key : R → K) (lot_of : R → Bytes) (begins : (a b : R) → is_gt (cmp (key a) (key b)) ≡ false → is_gt (bytes_cmp (lot_of a) (lot_of b)) ≡ false) where
  in_lot_order : (rows : List R) → IsInKeyOrder cmp key rows → IsSortedByKey lot_of bytes_cmp rows
  unfolding IsStrictlySortedBy
  in_lot_order [] ordered k d _ lt = absurd (omega arith)
  in_lot_order (x ∷ []) ordered k d _ lt = absurd (omega arith)
  in_lot_order (x ∷ y ∷ ys) ordered zero d _ lt = ap is_lt (nat_list_cmp_total.antisymm (lot_of y) (lot_of x)) ∙ not_less_reversed _ (begins x y (ap is_gt ordered.0.0))
  in_lot_order (x ∷ y ∷ ys) ordered (suc k) d _ lt =
      let next : suc k + 1 ≡ suc (k + 1) = omega arith in
      rw next (in_lot_order (y ∷ ys) ordered.1 k d (omega arith) (omega arith))

pub sublots_in_order : (rows : List SublotRow) → IsInKeyOrder pair_cmp (λ row. (row.lot, row.sublot)) rows → IsSortedByKey (λ row. row.lot) bytes_cmp rows
sublots_in_order = in_lot_order pair_cmp (λ row. (row.lot, row.sublot)) (λ row. row.lot) (λ a b. first_not_above _ _)

pub results_in_order : (rows : List ResultRow) → IsInKeyOrder result_cmp (λ row. (row.lot, row.test, row.number)) rows → IsSortedByKey (λ row. row.lot) bytes_cmp rows
results_in_order = in_lot_order result_cmp (λ row. (row.lot, row.test, row.number)) (λ row. row.lot) (λ a b above. first_not_above _ _ (first_not_above _ _ above))
