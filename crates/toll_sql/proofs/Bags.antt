-- A row that is put by its key is placed among the rows that the table has.
use Rattle.std.proofs.Common.{◌≡◌, ◌⊎◌, inl, inr, ℕ, ◌+◌, Bool, true, false, cond, List, [], ◌∷◌, map, refl, sym, ap, ◌∙◌, arith, Ordering, Less, Equal, Greater, IsPermutation}
use Rattle.toll_sql.proofs.Common.{IsTotalOrder, sum_by, AllByRecursion, is_eq, match_ordering, ordering_reverse, alike_right, sum_by-IsPermutation, IsPermutation-map, Row, all_has, Has, place, Rises, SameBag, total, all_cells, cells_of, ReplacesOrAdds, IsRowAdded}
use Rattle.std.proofs.lemmas.List.Sums.{sum_by-cons}

-- ---- sums

total_is : {X : Type 0} (f : X → ℕ) (xs : List X) → sum_by f xs ≡ total f xs
total_is f [] = refl
total_is f (x ∷ xs) = sum_by-cons f x xs ∙ ap (λ n. f x + n) (total_is f xs)

pub total_permuted : {X : Type 0} (f : X → ℕ) (xs ys : List X) → IsPermutation xs ys → total f xs ≡ total f ys
total_permuted f xs ys h = sym (total_is f xs) ∙ sym (sum_by-IsPermutation f xs ys h) ∙ total_is f ys

pub total_map : {A B : Type 0} (g : A → B) (f : B → ℕ) (xs : List A) → total f (map g xs) ≡ total (λ x. f (g x)) xs
total_map g f [] = refl
total_map g f (x ∷ xs) = omega (arith, total_map g f xs)

-- Equal rows have equal cells.
pub cells_permuted : (xs ys : List Row) → IsPermutation xs ys → SameBag (all_cells xs) (all_cells ys)
cells_permuted xs ys h f = total_permuted f (all_cells xs) (all_cells ys) (IsPermutation-map cells_of xs ys h)

-- ---- a placed row

module _ (cmp : Row → Row → Ordering) (o : IsTotalOrder cmp) (x : Row) where
  -- One row has the key of x, and x replaces it; or none has, and x is added.
  TakesPlace : List Row → Type 0
  TakesPlace l = (w : Row) × Has l w × (cmp w x ≡ Equal) × ((f : Row → ℕ) → f w + total f (place cmp x l) ≡ f x + total f l)

  JoinsBag : List Row → Type 0
  JoinsBag l = AllByRecursion (λ w. is_eq (cmp w x) ≡ false) l × ((f : Row → ℕ) → total f (place cmp x l) ≡ f x + total f l)

  bag_above : (y : Row) (ys : List Row) → cmp y x ≡ Greater → AllByRecursion (λ b. cmp y b ≡ Less) ys → AllByRecursion (λ w. is_eq (cmp w x) ≡ false) ys
  bag_above y [] h all = tt
  bag_above y (b ∷ ys) h all =
      let low : cmp x y ≡ Less = o.antisymm x y ∙ ap ordering_reverse h in
      let far : cmp b x ≡ Greater = o.antisymm b x ∙ ap ordering_reverse (o.trans x y b low all.0) in
      (ap is_eq far, bag_above y ys h all.1)

  bag_placed_at : (y : Row) (ys : List Row) → Rises cmp (y ∷ ys) → (r : Ordering) → cmp y x ≡ r → TakesPlace ys ⊎ JoinsBag ys
      → ((w : Row) × Has (y ∷ ys) w × (cmp w x ≡ Equal) × ((f : Row → ℕ) → f w + total f (match_ordering r (y ∷ place cmp x ys) (x ∷ ys) (x ∷ y ∷ ys)) ≡ f x + (f y + total f ys)))
      ⊎ (AllByRecursion (λ w. is_eq (cmp w x) ≡ false) (y ∷ ys) × ((f : Row → ℕ) → total f (match_ordering r (y ∷ place cmp x ys) (x ∷ ys) (x ∷ y ∷ ys)) ≡ f x + (f y + total f ys)))
  unfolding TakesPlace JoinsBag
  bag_placed_at y ys rises Less e (inl t) = inl (t.0, inr t.1, t.2, λ f. omega (arith, t.3 f))
  bag_placed_at y ys rises Less e (inr j) = inr ((ap is_eq e, j.0), λ f. omega (arith, j.1 f))
  bag_placed_at y ys rises Equal e h = inl (y, inl refl, e, λ f. omega arith)
  bag_placed_at y ys rises Greater e h = inr ((ap is_eq e, bag_above y ys e rises.0), λ f. omega arith)

  bag_placed : (l : List Row) → Rises cmp l → TakesPlace l ⊎ JoinsBag l
  unfolding TakesPlace JoinsBag
  bag_placed [] rises = inr (tt, λ f. omega arith)
  bag_placed (y ∷ ys) rises = bag_placed_at y ys rises (cmp y x) refl (bag_placed ys rises.1)

  -- ---- counted by a test for the key of x

  abbrev key_test : Row → Bool
  key_test c = is_eq (cmp c x)

  abbrev only : (Row → ℕ) → Row → ℕ
  only f c = cond (key_test c) (f c) 0

  hit : (f : Row → ℕ) (c : Row) → key_test c ≡ true → only f c ≡ f c
  hit f c e = ap (λ b. cond b (f c) 0) e

  miss : (f : Row → ℕ) (c : Row) → key_test c ≡ false → only f c ≡ 0
  miss f c e = ap (λ b. cond b (f c) 0) e

  none_keyed : (f : Row → ℕ) (l : List Row) → AllByRecursion (λ w. key_test w ≡ false) l → total (only f) l ≡ 0
  none_keyed f [] h = refl
  none_keyed f (w ∷ l) h = omega (arith, miss f w h.0, none_keyed f l h.1)

  beyond : (y : Row) (ys : List Row) → cmp y x ≡ Equal → AllByRecursion (λ b. cmp y b ≡ Less) ys → AllByRecursion (λ v. key_test v ≡ false) ys
  beyond y [] at all = tt
  beyond y (b ∷ ys) at all =
      let low : cmp x b ≡ Less = sym (o.congr y x b at) ∙ all.0 in
      (ap is_eq (o.antisymm b x ∙ ap ordering_reverse low), beyond y ys at all.1)

  one_keyed : (f : Row → ℕ) (l : List Row) (w : Row) → Rises cmp l → Has l w → cmp w x ≡ Equal → total (only f) l ≡ f w
  one_keyed f [] w rises h e = absurd h
  one_keyed f (y ∷ l) w rises (inl same) e =
      let at : cmp y x ≡ Equal = ap (λ v. cmp v x) (sym same) ∙ e in
      omega (arith, hit f y (ap is_eq at), ap f same, none_keyed f l (beyond y l at rises.0))
  one_keyed f (y ∷ l) w rises (inr later) e =
      let below : cmp y x ≡ Less = sym (alike_right o w x y e) ∙ all_has _ l w rises.0 later in
      omega (arith, miss f y (ap is_eq below), one_keyed f l w rises.1 later e)

  uncounted_at : (f : Row → ℕ) (c : Row) (n m : ℕ) (b : Bool) → (n ≡ 0 → m ≡ 0) → cond b 1 0 + n ≡ 0 → cond b (f c) 0 + m ≡ 0
  uncounted_at f c n m true next h = absurd (omega (arith, h))
  uncounted_at f c n m false next h = omega (arith, next (omega (arith, h)))

  bag_uncounted : (f : Row → ℕ) (rows : List Row) → total (only (λ _. 1)) rows ≡ 0 → total (only f) rows ≡ 0
  bag_uncounted f [] h = refl
  bag_uncounted f (c ∷ rows) h = uncounted_at f c (total (only (λ _. 1)) rows) (total (only f) rows) (key_test c) (bag_uncounted f rows) h

  -- ---- in the table

  module _ (has_key : Row → Bool) (reads : (r : Row) → has_key r ≡ key_test (cells_of r)) where
    bag_no_row : (f : Row → ℕ) (rows : List Row) → AllByRecursion (λ r. has_key r ≡ false) rows → total (only f) (all_cells rows) ≡ 0
    bag_no_row f [] h = refl
    bag_no_row f (r ∷ rows) h = omega (arith, miss f (cells_of r) (sym (reads r) ∙ h.0), bag_no_row f rows h.1)

    pub placed_in : (l old new : List Row) → Rises cmp l → SameBag l (all_cells old) → ReplacesOrAdds has_key x old new ⊎ IsRowAdded has_key x old new → SameBag (place cmp x l) (all_cells new)
    unfolding TakesPlace JoinsBag
    placed_in l old new rises same (inl h) f =
        let cols = cells_of h.0 in
        let split = λ (f : Row → ℕ). cells_permuted old (h.0 ∷ h.1) h.3 f in
        let here = λ (f : Row → ℕ). hit f cols (sym (reads h.0) ∙ h.2) in
        let after = total_permuted f _ _ h.4 in
        elim (bag_placed l rises) [
          | inl t ↦ (
              let count = one_keyed (λ _. 1) l t.0 rises t.1 t.2 in
              let alone = bag_uncounted f (all_cells h.1) (omega (arith, count, same (only (λ _. 1)), split (only (λ _. 1)), here (λ _. 1))) in
              let equal : f t.0 ≡ f cols = omega (arith, one_keyed f l t.0 rises t.1 t.2, same (only f), split (only f), here f, alone) in
              omega (arith, equal, t.3 f, same f, split f, after)
              )
          | inr j ↦ absurd (omega (arith, none_keyed (λ _. 1) l j.0, same (only (λ _. 1)), split (only (λ _. 1)), here (λ _. 1)))
        ]
    placed_in l old new rises same (inr h) f = elim (bag_placed l rises) [
      | inl t ↦ absurd (omega (arith, one_keyed (λ _. 1) l t.0 rises t.1 t.2, same (only (λ _. 1)), bag_no_row (λ _. 1) old h.0))
      | inr j ↦ omega (arith, j.1 f, same f, total_permuted f _ _ h.1)
    ]
