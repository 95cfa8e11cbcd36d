-- In a list sorted by a key, the items of one key lie between two places that searches find.
use Rattle.std.proofs.Common.{◌≡◌, ℕ, zero, suc, ◌+◌, ◌-◌, ◌≤◌, Bool, true, false, cond, ltb, leb, List, [], ◌∷◌, length, take, drop, refl, sym, ap, ◌∙◌, subst, arith, filter}
use Rattle.toll_trace.proofs.Common.{false≢true, IsTotalOrder, IsSortedByKey, IsPartitionedBy, IsPartitionPoint, is_lt, is_le, is_eq, ordering_index, Ordering, Less, Equal, Greater, searchable_from_sorted, IsPartitionedBy-ltb, IsPartitionedBy-leb}

is_lt-index : (o : Ordering) → is_lt o ≡ ltb (ordering_index o) 1
is_lt-index Less = refl
is_lt-index Equal = refl
is_lt-index Greater = refl

is_le-index : (o : Ordering) → is_le o ≡ leb (ordering_index o) 1
is_le-index Less = refl
is_le-index Equal = refl
is_le-index Greater = refl

module _ {K X : Type 0} (cmp : K → K → Ordering) (key : X → K) (k : K) where
  -- whether an item is below the key; not above it; equal to it
  abbrev pub run_below : X → Bool
  run_below x = is_lt (cmp (key x) k)

  abbrev pub up_to : X → Bool
  up_to x = is_le (cmp (key x) k)

  abbrev pub at_key : X → Bool
  at_key x = is_eq (cmp (key x) k)

  pub below_first : IsTotalOrder cmp → (xs : List X) → IsSortedByKey key cmp xs → IsPartitionedBy run_below xs
  below_first o xs sorted i j d le lt h =
      let by_index = IsPartitionedBy-ltb (λ x. ordering_index (cmp (key x) k)) xs 1 (searchable_from_sorted o key xs k sorted) i j d le lt in
      is_lt-index _ ∙ by_index (sym (is_lt-index _) ∙ h)

  pub up_to_first : IsTotalOrder cmp → (xs : List X) → IsSortedByKey key cmp xs → IsPartitionedBy up_to xs
  up_to_first o xs sorted i j d le lt h =
      let by_index = IsPartitionedBy-leb (λ x. ordering_index (cmp (key x) k)) xs 1 (searchable_from_sorted o key xs k sorted) i j d le lt in
      is_le-index _ ∙ by_index (sym (is_le-index _) ∙ h)

  abbrev pub IsEndOf : (X → Bool) → List X → ℕ → Type 0
  IsEndOf p xs = IsPartitionPoint (λ x. p x ≡ true) (λ x. p x ≡ false) xs

  tail : (p : X → Bool) (x : X) (xs : List X) (i : ℕ) → IsEndOf p (x ∷ xs) (suc i) → IsEndOf p xs i
  tail p x xs i h = ((λ m d le lt. h.0 (suc m) d (omega arith) (omega arith)), (λ m d le lt. h.1 (suc m) d (omega arith) (omega arith)))

  none : (p : X → Bool) (x : X) (xs : List X) → IsEndOf p (x ∷ xs) 0 → IsEndOf p xs 0
  none p x xs h = ((λ m d le lt. absurd (omega arith)), (λ m d le lt. h.1 (suc m) d (omega arith) (omega arith)))

  pub starts_before : (xs : List X) (i j : ℕ) → i ≤ length xs → IsEndOf run_below xs i → IsEndOf up_to xs j → i ≤ j
  starts_before [] i j le s e = omega arith
  starts_before (x ∷ xs) zero j le s e = omega arith
  starts_before (x ∷ xs) (suc i) zero le s e = go (cmp (key x) k) (s.0 0 x (omega arith) (omega arith)) (e.1 0 x (omega arith) (omega arith))
    where
      go : (r : Ordering) → is_lt r ≡ true → is_le r ≡ false → suc i ≤ 0
      go Less h n = absurd (false≢true (sym n))
      go Equal h n = absurd (false≢true h)
      go Greater h n = absurd (false≢true h)
  starts_before (x ∷ xs) (suc i) (suc j) le s e = let ih = starts_before xs i j (omega arith) (tail run_below x xs i s) (tail up_to x xs j e) in omega arith

  pub run_is : (xs : List X) (i n : ℕ) → IsEndOf run_below xs i → IsEndOf up_to xs (i + n) → i + n ≤ length xs → take n (drop i xs) ≡ filter at_key xs
  run_is [] zero zero s e le = refl
  run_is [] zero (suc n) s e le = absurd (omega arith)
  run_is [] (suc i) n s e le = absurd (omega arith)
  run_is (x ∷ xs) (suc i) n s e le = go (cmp (key x) k) (s.0 0 x (omega arith) (omega arith)) (run_is xs i n (tail run_below x xs i s) (tail up_to x xs (i + n) (subst (IsEndOf up_to (x ∷ xs)) (let same : suc i + n ≡ suc (i + n) = omega arith in same) e)) (omega arith))
    where
      go : (r : Ordering) → is_lt r ≡ true → take n (drop i xs) ≡ filter at_key xs → take n (drop i xs) ≡ cond (is_eq r) (x ∷ filter at_key xs) (filter at_key xs)
      go Less h ih = ih
      go Equal h ih = absurd (false≢true h)
      go Greater h ih = absurd (false≢true h)
  run_is (x ∷ xs) zero (suc n) s e le = go (cmp (key x) k) (s.1 0 x (omega arith) (omega arith)) (e.0 0 x (omega arith) (omega arith)) (run_is xs zero n (none run_below x xs s) (subst (IsEndOf up_to xs) (let same : n ≡ 0 + n = omega arith in same) (tail up_to x xs n (subst (IsEndOf up_to (x ∷ xs)) (let same : 0 + suc n ≡ suc n = omega arith in same) e))) (omega arith))
    where
      go : (r : Ordering) → is_lt r ≡ false → is_le r ≡ true → take n xs ≡ filter at_key xs → (x ∷ take n xs) ≡ cond (is_eq r) (x ∷ filter at_key xs) (filter at_key xs)
      go Less h l ih = absurd (false≢true (sym h))
      go Equal h l ih = ap (λ ys. x ∷ ys) ih
      go Greater h l ih = absurd (false≢true l)
  run_is (x ∷ xs) zero zero s e le = go (cmp (key x) k) (e.1 0 x (omega arith) (omega arith)) (run_is xs zero zero (none run_below x xs s) (none up_to x xs e) (omega arith))
    where
      go : (r : Ordering) → is_le r ≡ false → [] ≡ filter at_key xs → [] ≡ cond (is_eq r) (x ∷ filter at_key xs) (filter at_key xs)
      go Less h ih = absurd (false≢true (sym h))
      go Equal h ih = absurd (false≢true (sym h))
      go Greater h ih = ih

  -- The result of two searches in a sorted list, each of which stops at the end of a part.
  pub found_run : IsTotalOrder cmp → (xs : List X) → IsSortedByKey key cmp xs → (i j : ℕ) → i ≤ length xs → j ≤ length xs → (IsPartitionedBy run_below xs → IsEndOf run_below xs i) → (IsPartitionedBy up_to xs → IsEndOf up_to xs j) → record { forward : i ≤ j; run : take (j - i) (drop i xs) ≡ filter at_key xs }
  found_run o xs sorted i j le le' start end =
      let s = start (below_first o xs sorted) in
      let e = end (up_to_first o xs sorted) in
      let forward = starts_before xs i j le s e in
      let same : j ≡ i + (j - i) = omega arith in
      record {
        forward = forward;
        run = run_is xs i (j - i) s (subst (IsEndOf up_to xs) same e) (omega arith);
      }
