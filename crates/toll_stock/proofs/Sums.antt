-- Sums over lists, and over rows in the order of their keys.
use Rattle.std.proofs.Common.{◌≡◌, ℕ, suc, ◌+◌, ◌*◌, ◌<◌, ◌≤◌, Bool, true, false, ◌&&◌, cond, Some, List, [], ◌∷◌, length, map, filter, drop, drop-cons, get_or, refl, sym, ap, ◌∙◌, arith}
use Rattle.toll_stock.proofs.Common.{AllByRecursion, IsStrictlySortedBy, option_map_or, is_eq, ordering_reverse, Ordering, Less, Equal, tied_itself, IsInKeyOrder, row_at, total, count, total-alike, total-kept}
use Rattle.std.specs.Cmp.{IsTotalOrder, Equal-is}

-- ---- sums

-- Sums of equal terms are equal.
pub total-along : {X : Type 0} (f g : X → ℕ) (xs : List X) → AllByRecursion (λ x. f x ≡ g x) xs → total f xs ≡ total g xs
total-along f g [] same = refl
total-along f g (x ∷ xs) same = λ i. same.0 i + total-along f g xs same.1 i

pub total-plus : {X : Type 0} (f g : X → ℕ) (xs : List X) → total (λ x. f x + g x) xs ≡ total f xs + total g xs
total-plus f g [] = refl
total-plus f g (x ∷ xs) = omega (arith, total-plus f g xs)

pub total-zero : {X : Type 0} (xs : List X) → total (λ x. 0) xs ≡ 0
total-zero [] = refl
total-zero (x ∷ xs) = omega (arith, total-zero xs)

-- Two sums may be taken in either order.
pub total-swapped : {X Y : Type 0} (f : X → Y → ℕ) (xs : List X) (ys : List Y) → total (λ x. total (f x) ys) xs ≡ total (λ y. total (λ x. f x y) xs) ys
total-swapped f [] ys = sym (total-zero ys)
total-swapped f (x ∷ xs) ys = ap (λ n. total (f x) ys + n) (total-swapped f xs ys) ∙ sym (total-plus (f x) (λ y. total (λ z. f z y) xs) ys)

pub cond_zero : (b : Bool) → ◌≡◌ {A = ℕ} (cond b 0 0) 0
cond_zero true = refl
cond_zero false = refl

pub cond-total : {X : Type 0} (b : Bool) (f : X → ℕ) (xs : List X) → cond b (total f xs) 0 ≡ total (λ x. cond b (f x) 0) xs
cond-total true f xs = refl
cond-total false f xs = sym (total-zero xs)

pub total_bounded : {X : Type 0} (f : X → ℕ) (most : ℕ) (xs : List X) → AllByRecursion (λ x. f x ≤ most) xs → total f xs ≤ most * length xs
total_bounded f most [] le = omega arith
total_bounded f most (x ∷ xs) le =
    let first : f x ≤ most = le.0 in
    let rest = total_bounded f most xs le.1 in
    omega arith

both_pass : (a b : Bool) → ◌≡◌ {A = ℕ} (cond a (cond b 1 0) 0) (cond (a && b) 1 0)
both_pass true b = refl
both_pass false b = refl

-- how many items pass, of those that a filter keeps
pub count-kept : {X : Type 0} (p q : X → Bool) (xs : List X) → count q (filter p xs) ≡ count (λ x. p x && q x) xs
count-kept p q xs = total-kept p (λ x. cond (q x) 1 0) xs ∙ total-alike _ _ xs (λ x. both_pass (p x) (q x))

-- the sum from a place on
pub total-drop : {X : Type 0} (f : X → ℕ) (xs : List X) (i : ℕ) (d : X) → i < length xs → total f (drop i xs) ≡ f (get_or xs i d) + total f (drop (suc i) xs)
total-drop f xs i d lt = ap (total f) (drop-cons xs i d lt)

-- ---- rows in the order of their keys

module _ {K R : Type 0} (cmp : K → K → Ordering) (o : IsTotalOrder cmp) (key : R → K) where
  later_differs : (a b : K) → cmp a b ≡ Less → is_eq (cmp b a) ≡ false
  later_differs a b less = ap is_eq (o.antisymm b a ∙ ap ordering_reverse less)

  found_later : (x : R) (xs ys : List R) → AllByRecursion (λ k. cmp (key x) k ≡ Less) (map key ys) → AllByRecursion (λ r. row_at cmp key xs (key r) ≡ Some r) ys → AllByRecursion (λ r. row_at cmp key (x ∷ xs) (key r) ≡ Some r) ys
  unfolding row_at
  found_later x xs [] above found = tt
  found_later x xs (y ∷ ys) above found =
      (ap (λ b. cond b (Some x) (row_at cmp key xs (key y))) (later_differs (key x) (key y) above.0) ∙ found.0, found_later x xs ys above.1 found.1)

  -- Each row is the one that a search for its key finds.
  pub each_found : (rows : List R) → IsInKeyOrder cmp key rows → AllByRecursion (λ r. row_at cmp key rows (key r) ≡ Some r) rows
  unfolding row_at IsStrictlySortedBy
  each_found [] ordered = tt
  each_found (x ∷ xs) ordered = (ap (λ r. cond (is_eq r) (Some x) (row_at cmp key xs (key x))) (tied_itself o (key x)), found_later x xs xs ordered.0 (each_found xs ordered.1))

  none_later : (f : R → ℕ) (k a : K) (xs : List R) → cmp k a ≡ Equal → AllByRecursion (λ y. cmp a y ≡ Less) (map key xs) → total (λ r. cond (is_eq (cmp k (key r))) (f r) 0) xs ≡ 0
  none_later f k a [] tied above = refl
  none_later f k a (x ∷ xs) tied above =
      ap (λ r. cond (is_eq r) (f x) 0 + total (λ r. cond (is_eq (cmp k (key r))) (f r) 0) xs) (o.congr k a (key x) tied ∙ above.0)
      ∙ omega (arith, none_later f k a xs tied above.1)

  -- The sum over the rows with a key is that of the row found.
  pub total_at : (f : R → ℕ) (rows : List R) (k : K) → IsInKeyOrder cmp key rows → total (λ r. cond (is_eq (cmp k (key r))) (f r) 0) rows ≡ option_map_or f (row_at cmp key rows k) 0
  unfolding row_at IsStrictlySortedBy
  total_at f [] k ordered = refl
  total_at f (x ∷ xs) k ordered =
      elim (is_eq (cmp k (key x))) as (λ b. is_eq (cmp k (key x)) ≡ b → cond b (f x) 0 + total (λ r. cond (is_eq (cmp k (key r))) (f r) 0) xs ≡ option_map_or f (cond b (Some x) (row_at cmp key xs k)) 0) [
        | true ↦ λ tied. omega (arith, none_later f k (key x) xs ((Equal-is _).0 tied) ordered.0)
        | false ↦ λ apart. omega (arith, total_at f xs k ordered.1)
      ] refl
