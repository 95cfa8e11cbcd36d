-- What a search among rows in key order finds, and what an edit there does.
use Rattle.std.proofs.Common.{◌≡◌, ℕ, zero, suc, ◌+◌, ◌<◌, ◌≤◌, Bool, true, false, List, [], ◌∷◌, length, get_or, set, map, Option, Some, None, is_some, cond, refl, sym, ap, subst, ◌∙◌, arith}
use Rattle.std.specs.Prelude.{if◌then◌else◌}
use Rattle.toll_base.proofs.Common.{false≢true, IsTotalOrder, eq_by_cmp_equiv, AllByRecursion, HoldsAt, insert, IsStrictlySortedBy, IsNonDecreasingBy, IsPartitionPoint, is_eq, is_lt, ordering_index, ordering_reverse, Ordering, Less, Equal, Greater, alike_right, tied_back, IsInKeyOrder, row_at, replace_row, insert_row, put_row}

cond_twice : {X : Type 0} (b : Bool) (new old rest : X) → cond b new rest ≡ cond b new (cond b old rest)
cond_twice true new old rest = refl
cond_twice false new old rest = refl

pub cond_swap : {X : Type 0} (a b : Bool) (x new rest : X) → (a ≡ true → b ≡ true → ⊥) → cond a x (cond b new rest) ≡ cond b new (cond a x rest)
cond_swap true true x new rest apart = absurd (apart refl refl)
cond_swap true false x new rest apart = refl
cond_swap false b x new rest apart = refl

pub cond_none : {X : Type 0} (b : Bool) (x : X) (rest : Option X) → cond b (Some x) rest ≡ None → record { test : b ≡ false; others : rest ≡ None }
cond_none true x rest h = (cc)
cond_none false x rest h = record { test = refl; others = h }

pub none_of : {X : Type 0} (o : Option X) → is_some o ≡ false → o ≡ None
none_of None h = refl
none_of (Some x) h = absurd (false≢true (sym h))

module _ {K R : Type 0} (cmp : K → K → Ordering) (o : IsTotalOrder cmp) (key : R → K) where
  -- the other way round
  pub turned : (a b : K) (r : Ordering) → cmp a b ≡ r → cmp b a ≡ ordering_reverse r
  turned a b r h = o.antisymm b a ∙ ap ordering_reverse h

  -- a row before the one with the key is below it
  pub key_below : (x : R) (xs : List R) (k : K) (i : ℕ) → AllByRecursion (λ y. cmp (key x) y ≡ Less) (map key xs) → i < length xs → HoldsAt (λ y. cmp (key y) k ≡ Equal) xs i → cmp (key x) k ≡ Less
  key_below x [] k i above lt at = absurd (omega arith)
  key_below x (y ∷ ys) k zero above lt at = sym (alike_right o (key y) k (key x) (at y)) ∙ above.0
  key_below x (y ∷ ys) k (suc i) above lt at = key_below x ys k i above.1 (omega arith) at

  -- the row found is the one with the key
  pub row_at_found : (xs : List R) (k : K) (i : ℕ) (d : R) → IsInKeyOrder cmp key xs → i < length xs → HoldsAt (λ y. cmp (key y) k ≡ Equal) xs i → row_at cmp key xs k ≡ Some (get_or xs i d)
  unfolding row_at IsStrictlySortedBy
  row_at_found [] k i d ordered lt at = absurd (omega arith)
  row_at_found (x ∷ xs) k zero d ordered lt at = rw (tied_back o (key x) k (at x))
  row_at_found (x ∷ xs) k (suc i) d ordered lt at = rw (turned (key x) k Less (key_below x xs k i ordered.0 (omega arith) at)) (row_at_found xs k i d ordered.1 (omega arith) at)

  -- writing over it replaces the row
  replace_row_found : (xs : List R) (new : R) (i : ℕ) → IsInKeyOrder cmp key xs → i < length xs → HoldsAt (λ y. cmp (key y) (key new) ≡ Equal) xs i → set xs i new ≡ replace_row cmp key xs new
  unfolding IsStrictlySortedBy
  replace_row_found [] new i ordered lt at = absurd (omega arith)
  replace_row_found (x ∷ xs) new zero ordered lt at = rw (tied_back o (key x) (key new) (at x))
  replace_row_found (x ∷ xs) new (suc i) ordered lt at = rw (turned (key x) (key new) Less (key_below x xs (key new) i ordered.0 (omega arith) at)) (ap (λ ys. x ∷ ys) (replace_row_found xs new i ordered.1 (omega arith) at))

  abbrev pub IsGap : List R → K → ℕ → Type 0
  IsGap xs k = IsPartitionPoint (λ y. cmp (key y) k ≡ Less) (λ y. cmp (key y) k ≡ Greater) xs

  gap_tail : (x : R) (xs : List R) (k : K) (i : ℕ) → IsGap (x ∷ xs) k (suc i) → IsGap xs k i
  gap_tail x xs k i gap = ((λ j d _ lt. gap.0 (suc j) d (omega arith) (omega arith)), (λ j d le lt. gap.1 (suc j) d (omega arith) (omega arith)))

  -- no row at a gap has the key
  pub row_at_gap : (xs : List R) (k : K) (i : ℕ) → IsGap xs k i → row_at cmp key xs k ≡ None
  unfolding row_at
  row_at_gap [] k i gap = refl
  row_at_gap (x ∷ xs) k zero gap = rw (turned (key x) k Greater (gap.1 0 x (omega arith) (omega arith))) (row_at_gap xs k 0 ((λ j d _ lt. absurd (omega arith)), (λ j d le lt. gap.1 (suc j) d (omega arith) (omega arith))))
  row_at_gap (x ∷ xs) k (suc i) gap = rw (turned (key x) k Less (gap.0 0 x (omega arith) (omega arith))) (row_at_gap xs k i (gap_tail x xs k i gap))

  -- an insert there adds the row
  insert_row_gap : (xs : List R) (new : R) (i : ℕ) → i ≤ length xs → IsGap xs (key new) i → insert xs i new ≡ insert_row cmp key xs new
  insert_row_gap [] new zero le gap = refl
  insert_row_gap [] new (suc i) le gap = absurd (omega arith)
  insert_row_gap (x ∷ xs) new zero le gap = rw (turned (key x) (key new) Greater (gap.1 0 x (omega arith) (omega arith)))
  insert_row_gap (x ∷ xs) new (suc i) le gap = rw (turned (key x) (key new) Less (gap.0 0 x (omega arith) (omega arith))) (ap (λ ys. x ∷ ys) (insert_row_gap xs new i (omega arith) (gap_tail x xs (key new) i gap)))

  -- ---- the order is kept
  pub all_above : (a b : K) (ks : List K) → cmp a b ≡ Less → AllByRecursion (λ k. cmp b k ≡ Less) ks → AllByRecursion (λ k. cmp a k ≡ Less) ks
  all_above a b [] lt above = tt
  all_above a b (k ∷ ks) lt above = (o.trans a b k lt above.0, all_above a b ks lt above.1)

  pub key_all_alike : (a b : K) (ks : List K) → cmp a b ≡ Equal → AllByRecursion (λ k. cmp b k ≡ Less) ks → AllByRecursion (λ k. cmp a k ≡ Less) ks
  key_all_alike a b [] e above = tt
  key_all_alike a b (k ∷ ks) e above = (o.congr a b k e ∙ above.0, key_all_alike a b ks e above.1)

  key_all_replaced : (a : K) (xs : List R) (new : R) → AllByRecursion (λ k. cmp a k ≡ Less) (map key xs) → AllByRecursion (λ k. cmp a k ≡ Less) (map key (replace_row cmp key xs new))
  key_all_replaced a [] new above = tt
  key_all_replaced a (x ∷ xs) new above =
      elim (cmp (key new) (key x)) as (λ r. cmp (key new) (key x) ≡ r → AllByRecursion (λ k. cmp a k ≡ Less) (map key (if is_eq r then new ∷ xs else x ∷ replace_row cmp key xs new))) [
        | Equal ↦ λ e. (alike_right o (key new) (key x) a e ∙ above.0, above.1)
        | _ ↦ λ e. (above.0, key_all_replaced a xs new above.1)
      ] refl

  replace_row_ordered : (xs : List R) (new : R) → IsInKeyOrder cmp key xs → IsInKeyOrder cmp key (replace_row cmp key xs new)
  unfolding IsStrictlySortedBy
  replace_row_ordered [] new ordered = tt
  replace_row_ordered (x ∷ xs) new ordered =
      elim (cmp (key new) (key x)) as (λ r. cmp (key new) (key x) ≡ r → IsStrictlySortedBy cmp (map key (if is_eq r then new ∷ xs else x ∷ replace_row cmp key xs new))) [
        | Equal ↦ λ e. (key_all_alike _ _ _ e ordered.0, ordered.1)
        | _ ↦ λ e. (key_all_replaced (key x) xs new ordered.0, replace_row_ordered xs new ordered.1)
      ] refl

  key_all_inserted : (a : K) (xs : List R) (new : R) → cmp a (key new) ≡ Less → AllByRecursion (λ k. cmp a k ≡ Less) (map key xs) → AllByRecursion (λ k. cmp a k ≡ Less) (map key (insert_row cmp key xs new))
  key_all_inserted a [] new lt above = (lt, tt)
  key_all_inserted a (x ∷ xs) new lt above =
      elim (is_lt (cmp (key new) (key x))) as (λ b. AllByRecursion (λ k. cmp a k ≡ Less) (map key (if b then new ∷ x ∷ xs else x ∷ insert_row cmp key xs new))) [
        | true ↦ (lt, above)
        | false ↦ (above.0, key_all_inserted a xs new lt above.1)
      ]

  insert_row_ordered : (xs : List R) (new : R) → row_at cmp key xs (key new) ≡ None → IsInKeyOrder cmp key xs → IsInKeyOrder cmp key (insert_row cmp key xs new)
  unfolding row_at IsStrictlySortedBy
  insert_row_ordered [] new absent ordered = (tt, tt)
  insert_row_ordered (x ∷ xs) new absent ordered =
      elim (cmp (key new) (key x)) as (λ r. cmp (key new) (key x) ≡ r → (if is_eq r then Some x else row_at cmp key xs (key new)) ≡ None → IsStrictlySortedBy cmp (map key (if is_lt r then new ∷ x ∷ xs else x ∷ insert_row cmp key xs new))) [
        | Less ↦ λ e none. ((e, all_above _ _ _ e ordered.0), ordered)
        | Equal ↦ λ e none. (cc)
        | Greater ↦ λ e none. (key_all_inserted (key x) xs new (turned (key new) (key x) Greater e) ordered.0, insert_row_ordered xs new none ordered.1)
      ] refl absent

  -- a row that is put leaves the rows in order
  pub put_row_ordered : (xs : List R) (new : R) → IsInKeyOrder cmp key xs → IsInKeyOrder cmp key (put_row cmp key xs new)
  unfolding row_at put_row
  put_row_ordered xs new ordered =
      elim (is_some (row_at cmp key xs (key new))) as (λ b. is_some (row_at cmp key xs (key new)) ≡ b → IsInKeyOrder cmp key (cond b (replace_row cmp key xs new) (insert_row cmp key xs new))) [
        | true ↦ λ found. replace_row_ordered xs new ordered
        | false ↦ λ absent. insert_row_ordered xs new (none_of _ absent) ordered
      ] refl

  -- ---- the comparisons with a key rise along the rows, as a binary search asks
  rises_by : (a b k : K) (r s : Ordering) → cmp a k ≡ r → cmp b k ≡ s → cmp a b ≡ Less → ordering_index r ≤ ordering_index s
  rises_by a b k Less s ea eb lt = omega arith
  rises_by a b k Equal s ea eb lt = subst (λ t. 1 ≤ ordering_index t) (sym (turned k b Less (sym (o.congr a k b ea) ∙ lt)) ∙ eb) (omega arith)
  rises_by a b k Greater s ea eb lt = subst (λ t. 2 ≤ ordering_index t) (sym (turned k b Less (o.trans k a b (turned a k Greater ea) lt)) ∙ eb) (omega arith)

  rises_from : (x : R) (xs : List R) (k : K) (j : ℕ) (d : R) → AllByRecursion (λ y. cmp (key x) y ≡ Less) (map key xs) → j < length xs → ordering_index (cmp (key x) k) ≤ ordering_index (cmp (key (get_or xs j d)) k)
  rises_from x [] k j d above lt = absurd (omega arith)
  rises_from x (y ∷ ys) k zero d above lt = rises_by (key x) (key y) k _ _ refl refl above.0
  rises_from x (y ∷ ys) k (suc j) d above lt = rises_from x ys k j d above.1 (omega arith)

  pub comparisons_rise : (xs : List R) (k : K) → IsInKeyOrder cmp key xs → IsNonDecreasingBy (λ y. ordering_index (cmp (key y) k)) xs
  unfolding IsStrictlySortedBy
  comparisons_rise [] k ordered i j d le lt = absurd (omega arith)
  comparisons_rise (x ∷ xs) k ordered zero zero d le lt = omega arith
  comparisons_rise (x ∷ xs) k ordered zero (suc j) d le lt = rises_from x xs k j d ordered.0 (omega arith)
  comparisons_rise (x ∷ xs) k ordered (suc i) zero d le lt = absurd (omega arith)
  comparisons_rise (x ∷ xs) k ordered (suc i) (suc j) d le lt = comparisons_rise xs k ordered.1 i j d (omega arith) (omega arith)

  -- ---- what `put` does at the place that a search gave
  pub put_at : (xs : List R) (new : R) (k : K) (i : ℕ) → k ≡ key new → IsInKeyOrder cmp key xs → i < length xs → HoldsAt (λ y. cmp (key y) k ≡ Equal) xs i → record { same : set xs i new ≡ put_row cmp key xs new; ordered : IsInKeyOrder cmp key (set xs i new) }
  unfolding row_at put_row
  put_at xs new k i is ordered lt at =
      let at_new = subst (λ q. HoldsAt (λ y. cmp (key y) q ≡ Equal) xs i) is at in
      let same = replace_row_found xs new i ordered lt at_new in
      record { same = rw (row_at_found xs (key new) i new ordered lt at_new) same; ordered = subst (IsInKeyOrder cmp key) (sym same) (replace_row_ordered xs new ordered) }

  pub put_in_gap : (xs : List R) (new : R) (k : K) (i : ℕ) → k ≡ key new → IsInKeyOrder cmp key xs → i ≤ length xs → IsGap xs k i → record { same : insert xs i new ≡ put_row cmp key xs new; ordered : IsInKeyOrder cmp key (insert xs i new) }
  unfolding row_at put_row
  put_in_gap xs new k i is ordered le gap =
      let gap_new = subst (λ q. IsGap xs q i) is gap in
      let absent = row_at_gap xs (key new) i gap_new in
      let same = insert_row_gap xs new i le gap_new in
      record { same = rw absent same; ordered = subst (IsInKeyOrder cmp key) (sym same) (insert_row_ordered xs new absent ordered) }

  -- ---- look-ups and lengths after a row is put, in any list
  module _ (x new : R) (k : K) where
    -- a key that ties with both ties them
    key_apart : is_eq (cmp (key new) (key x)) ≡ false → is_eq (cmp k (key x)) ≡ true → is_eq (cmp k (key new)) ≡ true → ⊥
    key_apart differ with_x with_new = false≢true (sym differ ∙ sym ((eq_by_cmp_equiv o).congr k (key new) (key x) with_new) ∙ with_x)

    key_alike : is_eq (cmp (key new) (key x)) ≡ true → is_eq (cmp k (key x)) ≡ is_eq (cmp k (key new))
    key_alike same = (eq_by_cmp_equiv o).symm k (key x) ∙ sym ((eq_by_cmp_equiv o).congr (key new) (key x) k same) ∙ (eq_by_cmp_equiv o).symm (key new) k

  row_at_replaced : (xs : List R) (new : R) (k : K) → is_some (row_at cmp key xs (key new)) ≡ true → row_at cmp key (replace_row cmp key xs new) k ≡ cond (is_eq (cmp k (key new))) (Some new) (row_at cmp key xs k)
  unfolding row_at
  row_at_replaced [] new k found = absurd (false≢true found)
  row_at_replaced (x ∷ xs) new k found =
      elim (is_eq (cmp (key new) (key x))) as (λ b. is_eq (cmp (key new) (key x)) ≡ b → is_some (cond b (Some x) (row_at cmp key xs (key new))) ≡ true → row_at cmp key (cond b (new ∷ xs) (x ∷ replace_row cmp key xs new)) k ≡ cond (is_eq (cmp k (key new))) (Some new) (cond (is_eq (cmp k (key x))) (Some x) (row_at cmp key xs k))) [
        | true ↦ λ same h. rw (key_alike x new k same) (cond_twice (is_eq (cmp k (key new))) (Some new) (Some x) (row_at cmp key xs k))
        | false ↦ λ differ h. ap (cond (is_eq (cmp k (key x))) (Some x)) (row_at_replaced xs new k h) ∙ cond_swap (is_eq (cmp k (key x))) (is_eq (cmp k (key new))) (Some x) (Some new) (row_at cmp key xs k) (key_apart x new k differ)
      ] refl found

  row_at_inserted : (xs : List R) (new : R) (k : K) → row_at cmp key xs (key new) ≡ None → row_at cmp key (insert_row cmp key xs new) k ≡ cond (is_eq (cmp k (key new))) (Some new) (row_at cmp key xs k)
  unfolding row_at
  row_at_inserted [] new k absent = refl
  row_at_inserted (x ∷ xs) new k absent =
      let parts = cond_none _ _ _ absent in
      elim (is_lt (cmp (key new) (key x))) as (λ b. row_at cmp key (cond b (new ∷ x ∷ xs) (x ∷ insert_row cmp key xs new)) k ≡ cond (is_eq (cmp k (key new))) (Some new) (cond (is_eq (cmp k (key x))) (Some x) (row_at cmp key xs k))) [
        | true ↦ refl
        | false ↦ ap (cond (is_eq (cmp k (key x))) (Some x)) (row_at_inserted xs new k parts.others) ∙ cond_swap (is_eq (cmp k (key x))) (is_eq (cmp k (key new))) (Some x) (Some new) (row_at cmp key xs k) (key_apart x new k parts.test)
      ]

  length_replaced : (xs : List R) (new : R) → length (replace_row cmp key xs new) ≡ length xs
  length_replaced [] new = refl
  length_replaced (x ∷ xs) new =
      elim (is_eq (cmp (key new) (key x))) as (λ b. length (cond b (new ∷ xs) (x ∷ replace_row cmp key xs new)) ≡ suc (length xs)) [
        | true ↦ refl
        | false ↦ ap suc (length_replaced xs new)
      ]

  length_inserted : (xs : List R) (new : R) → length (insert_row cmp key xs new) ≡ suc (length xs)
  length_inserted [] new = refl
  length_inserted (x ∷ xs) new =
      elim (is_lt (cmp (key new) (key x))) as (λ b. length (cond b (new ∷ x ∷ xs) (x ∷ insert_row cmp key xs new)) ≡ suc (suc (length xs))) [
        | true ↦ refl
        | false ↦ ap suc (length_inserted xs new)
      ]

  -- a row that is put is found at its key, and each other key has what it had
  pub row_at-put_row : (xs : List R) (new : R) (k : K) → row_at cmp key (put_row cmp key xs new) k ≡ cond (is_eq (cmp k (key new))) (Some new) (row_at cmp key xs k)
  unfolding row_at put_row
  row_at-put_row xs new k =
      elim (is_some (row_at cmp key xs (key new))) as (λ b. is_some (row_at cmp key xs (key new)) ≡ b → row_at cmp key (cond b (replace_row cmp key xs new) (insert_row cmp key xs new)) k ≡ cond (is_eq (cmp k (key new))) (Some new) (row_at cmp key xs k)) [
        | true ↦ λ found. row_at_replaced xs new k found
        | false ↦ λ absent. row_at_inserted xs new k (none_of _ absent)
      ] refl

  -- there is a row more where the key is new
  pub length-put_row : (xs : List R) (new : R) → length (put_row cmp key xs new) ≡ cond (is_some (row_at cmp key xs (key new))) 0 1 + length xs
  unfolding row_at put_row
  length-put_row xs new =
      elim (is_some (row_at cmp key xs (key new))) as (λ b. length (cond b (replace_row cmp key xs new) (insert_row cmp key xs new)) ≡ cond b 0 1 + length xs) [
        | true ↦ omega (arith, length_replaced xs new)
        | false ↦ omega (arith, length_inserted xs new)
      ]
