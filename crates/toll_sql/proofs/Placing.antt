-- Rows placed in an order.
use Rattle.std.proofs.Common.{◌≡◌, Bool, true, false, cond, List, [], ◌∷◌, map, Some, None, is_some, refl, sym, ap, ◌∙◌, Ordering, Less, Equal, Greater, if◌then◌else◌}
use Rattle.toll_sql.proofs.Common.{IsTotalOrder, AllByRecursion, IsStrictlySortedBy, is_eq, is_lt, match_ordering, ordering_reverse, Row, IsInKeyOrder, row_at, replace_row, insert_row, put_row, place, Rises}

push : {X : Type 0} (b : Bool) (y : X) (l r : List X) → y ∷ cond b l r ≡ cond b (y ∷ l) (y ∷ r)
push true y l r = refl
push false y l r = refl

-- ---- a row put by its key is placed in the order of the keys

module _ {K R : Type 0} (cmp : K → K → Ordering) (o : IsTotalOrder cmp) (key : R → K) where
  abbrev pub by_key : R → R → Ordering
  by_key a b = cmp (key a) (key b)

  placing_absent : (k y : K) (ys : List R) → cmp k y ≡ Less → AllByRecursion (λ j. cmp y j ≡ Less) (map key ys) → row_at cmp key ys k ≡ None
  unfolding row_at
  placing_absent k y [] low h = refl
  placing_absent k y (z ∷ ys) low h = rw (o.trans k y (key z) low h.0) (placing_absent k y ys low h.1)

  order_placed_at : (x y : R) (ys : List R) (r s : Ordering) → r ≡ ordering_reverse s → (s ≡ Less → row_at cmp key ys (key x) ≡ None)
      → place by_key x ys ≡ cond (is_some (row_at cmp key ys (key x))) (replace_row cmp key ys x) (insert_row cmp key ys x)
      → match_ordering r (y ∷ place by_key x ys) (x ∷ ys) (x ∷ y ∷ ys)
      ≡ cond (is_some (if is_eq s then Some y else row_at cmp key ys (key x))) (if is_eq s then x ∷ ys else y ∷ replace_row cmp key ys x) (if is_lt s then x ∷ y ∷ ys else y ∷ insert_row cmp key ys x)
  order_placed_at x y ys r Less e none h = rw (e, none refl)
  order_placed_at x y ys r Equal e none h = rw e
  order_placed_at x y ys r Greater e none h = rw e (ap (λ l. y ∷ l) h ∙ push (is_some (row_at cmp key ys (key x))) y _ _)

  pub place_is : (x : R) (l : List R) → IsInKeyOrder cmp key l → place by_key x l ≡ put_row cmp key l x
  unfolding row_at put_row IsStrictlySortedBy
  place_is x [] h = refl
  place_is x (y ∷ ys) h = order_placed_at x y ys (cmp (key y) (key x)) (cmp (key x) (key y)) (o.antisymm (key y) (key x)) (λ low. placing_absent (key x) (key y) ys low h.0) (place_is x ys h.1)

  -- ---- the cells of the row are placed likewise

  module _ (encode : R → Row) (order : Row → Row → Ordering) (same : (a b : R) → order (encode a) (encode b) ≡ cmp (key a) (key b)) where
    all_keys : (x : R) (ys : List R) → AllByRecursion (λ c. order (encode x) c ≡ Less) (map encode ys) → AllByRecursion (λ k. cmp (key x) k ≡ Less) (map key ys)
    all_keys x [] h = tt
    all_keys x (y ∷ ys) h = (sym (same x y) ∙ h.0, all_keys x ys h.1)

    pub in_key_order : (l : List R) → Rises order (map encode l) → IsInKeyOrder cmp key l
    unfolding IsStrictlySortedBy
    in_key_order [] h = tt
    in_key_order (x ∷ l) h = (all_keys x l h.0, in_key_order l h.1)

    one_placed : (x y : R) (ys : List R) (r : Ordering) → map encode (place by_key x ys) ≡ place order (encode x) (map encode ys)
        → map encode (match_ordering r (y ∷ place by_key x ys) (x ∷ ys) (x ∷ y ∷ ys)) ≡ match_ordering r (encode y ∷ place order (encode x) (map encode ys)) (encode x ∷ map encode ys) (encode x ∷ encode y ∷ map encode ys)
    one_placed x y ys Less h = ap (λ l. encode y ∷ l) h
    one_placed x y ys Equal h = refl
    one_placed x y ys Greater h = refl

    cells_placed : (x : R) (l : List R) → map encode (place by_key x l) ≡ place order (encode x) (map encode l)
    cells_placed x [] = refl
    cells_placed x (y ∷ ys) =
        one_placed x y ys (cmp (key y) (key x)) (cells_placed x ys)
        ∙ ap (λ r. match_ordering r (encode y ∷ place order (encode x) (map encode ys)) (encode x ∷ map encode ys) (encode x ∷ encode y ∷ map encode ys)) (sym (same y x))

    pub put_placed : (x : R) (l : List R) → Rises order (map encode l) → map encode (put_row cmp key l x) ≡ place order (encode x) (map encode l)
    put_placed x l rises = ap (map encode) (sym (place_is x l (in_key_order l rises))) ∙ cells_placed x l

-- ---- a rising list still rises

module _ {X : Type 0} (cmp : X → X → Ordering) (o : IsTotalOrder cmp) where
  all_placed_at : (P : X → Type 0) (x y : X) (ys : List X) (r : Ordering) → P x → P y → AllByRecursion P ys → AllByRecursion P (place cmp x ys) → AllByRecursion P (match_ordering r (y ∷ place cmp x ys) (x ∷ ys) (x ∷ y ∷ ys))
  all_placed_at P x y ys Less px py all more = (py, more)
  all_placed_at P x y ys Equal px py all more = (px, all)
  all_placed_at P x y ys Greater px py all more = (px, (py, all))

  all_placed : (P : X → Type 0) (x : X) (l : List X) → P x → AllByRecursion P l → AllByRecursion P (place cmp x l)
  all_placed P x [] px all = (px, tt)
  all_placed P x (y ∷ ys) px all = all_placed_at P x y ys (cmp y x) px all.0 all.1 (all_placed P x ys px all.1)

  as_low : (x y : X) (ys : List X) → cmp y x ≡ Equal → AllByRecursion (λ b. cmp y b ≡ Less) ys → AllByRecursion (λ b. cmp x b ≡ Less) ys
  as_low x y [] e all = tt
  as_low x y (b ∷ ys) e all = (sym (o.congr y x b e) ∙ all.0, as_low x y ys e all.1)

  placing_lower : (x y : X) (ys : List X) → cmp x y ≡ Less → AllByRecursion (λ b. cmp y b ≡ Less) ys → AllByRecursion (λ b. cmp x b ≡ Less) ys
  placing_lower x y [] low all = tt
  placing_lower x y (b ∷ ys) low all = (o.trans x y b low all.0, placing_lower x y ys low all.1)

  rises_at : (x y : X) (ys : List X) (r : Ordering) → cmp y x ≡ r → Rises cmp (y ∷ ys) → Rises cmp (place cmp x ys) → Rises cmp (match_ordering r (y ∷ place cmp x ys) (x ∷ ys) (x ∷ y ∷ ys))
  rises_at x y ys Less e rises more = (all_placed (λ b. cmp y b ≡ Less) x ys e rises.0, more)
  rises_at x y ys Equal e rises more = (as_low x y ys e rises.0, rises.1)
  rises_at x y ys Greater e rises more =
      let low : cmp x y ≡ Less = o.antisymm x y ∙ ap ordering_reverse e in
      ((low, placing_lower x y ys low rises.0), rises)

  pub place_rises : (x : X) (l : List X) → Rises cmp l → Rises cmp (place cmp x l)
  place_rises x [] rises = (tt, tt)
  place_rises x (y ∷ ys) rises = rises_at x y ys (cmp y x) refl rises (place_rises x ys rises.1)
