-- Two lists of rows in key order that have the same at each key are one.
use Rattle.std.proofs.Common.{◌≡◌, Some, None, cond, List, [], ◌∷◌, map, refl, sym, ap, subst, ◌∙◌}
use Rattle.toll_base.proofs.KeyOrder.{all_above, key_all_alike}
use Rattle.std.proofs.lemmas.Option.{none-some, same_Some}
use Rattle.toll_answers.proofs.Common.{IsTotalOrder, AllByRecursion, Ordering, IsInKeyOrder, row_at, IsStrictlySortedBy, is_eq, ordering_reverse, Less, Equal, Greater}
use Rattle.toll_work.proofs.KeyedRows.{keyed_head_found}

module _ {K R : Type 0} (cmp : K → K → Ordering) (o : IsTotalOrder cmp) (key : R → K) where
  -- a key below every key of a list is not there
  same_none_below : (xs : List R) (k : K) → AllByRecursion (λ y. cmp k y ≡ Less) (map key xs) → row_at cmp key xs k ≡ None
  unfolding row_at
  same_none_below [] k all = refl
  same_none_below (x ∷ xs) k all = rw all.0 (same_none_below xs k all.1)

  -- the heads are one
  same_head : (x y : R) (xs ys : List R) → AllByRecursion (λ k. cmp (key x) k ≡ Less) (map key xs) → AllByRecursion (λ k. cmp (key y) k ≡ Less) (map key ys) →
      ((k : K) → row_at cmp key (x ∷ xs) k ≡ row_at cmp key (y ∷ ys) k) → x ≡ y
  unfolding row_at
  same_head x y xs ys above_x above_y same =
      elim (cmp (key x) (key y)) as (λ r. cmp (key x) (key y) ≡ r → x ≡ y) [
        | Less ↦ λ lt. absurd (none-some _ (sym (same_none_below (y ∷ ys) (key x) (lt, all_above cmp o key (key x) (key y) (map key ys) lt above_y)) ∙ sym (same (key x)) ∙ keyed_head_found cmp key o x xs))
        | Equal ↦ λ e. same_Some _ _ (sym (keyed_head_found cmp key o x xs) ∙ same (key x) ∙ ap (λ r. cond (is_eq r) (Some y) (row_at cmp key ys (key x))) e)
        | Greater ↦ λ gt.
            let lt : cmp (key y) (key x) ≡ Less = o.antisymm (key y) (key x) ∙ ap ordering_reverse gt in
            absurd (none-some _ (sym (same_none_below (x ∷ xs) (key y) (lt, all_above cmp o key (key y) (key x) (map key xs) lt above_x)) ∙ same (key y) ∙ keyed_head_found cmp key o y ys))
      ] refl

  -- beside one head, the tails have the same
  same_tail : (x : R) (xs ys : List R) → AllByRecursion (λ k. cmp (key x) k ≡ Less) (map key xs) → AllByRecursion (λ k. cmp (key x) k ≡ Less) (map key ys) →
      ((k : K) → row_at cmp key (x ∷ xs) k ≡ row_at cmp key (x ∷ ys) k) → (k : K) → row_at cmp key xs k ≡ row_at cmp key ys k
  unfolding row_at
  same_tail x xs ys above_xs above_ys same k =
      elim (cmp k (key x)) as (λ r. cmp k (key x) ≡ r → cond (is_eq r) (Some x) (row_at cmp key xs k) ≡ cond (is_eq r) (Some x) (row_at cmp key ys k) → row_at cmp key xs k ≡ row_at cmp key ys k) [
        | Equal ↦ λ e h. same_none_below xs k (key_all_alike cmp o key k (key x) (map key xs) e above_xs) ∙ sym (same_none_below ys k (key_all_alike cmp o key k (key x) (map key ys) e above_ys))
        | Less ↦ λ e h. h
        | Greater ↦ λ e h. h
      ] refl (same k)

  pub same_rows : (xs ys : List R) → IsInKeyOrder cmp key xs → IsInKeyOrder cmp key ys → ((k : K) → row_at cmp key xs k ≡ row_at cmp key ys k) → xs ≡ ys
  unfolding row_at IsStrictlySortedBy
  same_rows [] [] ordered_xs ordered_ys same = refl
  same_rows [] (y ∷ ys) ordered_xs ordered_ys same = absurd (none-some _ (same (key y) ∙ keyed_head_found cmp key o y ys))
  same_rows (x ∷ xs) [] ordered_xs ordered_ys same = absurd (none-some _ (sym (same (key x)) ∙ keyed_head_found cmp key o x xs))
  same_rows (x ∷ xs) (y ∷ ys) ordered_xs ordered_ys same =
      let head = same_head x y xs ys ordered_xs.0 ordered_ys.0 same in
      let above = subst (λ z. AllByRecursion (λ k. cmp (key z) k ≡ Less) (map key ys)) (sym head) ordered_ys.0 in
      let along : (k : K) → row_at cmp key (x ∷ xs) k ≡ row_at cmp key (x ∷ ys) k = λ k. same k ∙ ap (λ z. row_at cmp key (z ∷ ys) k) (sym head) in
      λ i. head i ∷ same_rows xs ys ordered_xs.1 ordered_ys.1 (same_tail x xs ys ordered_xs.0 above along) i
