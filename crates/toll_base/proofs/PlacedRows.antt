-- Rows that are read by their places.
use Rattle.std.proofs.Common.{◌≡◌, ◌≢◌, ℕ, zero, suc, ◌+◌, ◌<◌, ◌≤◌, List, [], ◌∷◌, ◌++◌, length, get_or, set, map, Some, refl, sym, ap, subst, ◌∙◌, arith}
use Rattle.std.specs.Prelude.{slice_get}
use Rattle.std.proofs.lemmas.List.{get_or-map, get_or-set_same, get_or-set_other, get_or_append_left, length-map, length-append, length-set}
use Rattle.std.proofs.Math.Seq.{get_or-append_seam}
use Rattle.toll_base.proofs.Common.{false≢true, IsTotalOrder, AllByRecursion, insert, IsStrictlySortedBy, is_eq, Ordering, Less, tied_itself, slice_get-get_or, rows_at, HaveRows, IsInKeyOrder}

module _ {R : Type 0} where
  -- each place shows its row
  pub mapped : (rows : List R) (places : List ℕ) (d : R) → HaveRows rows places → rows_at rows places ≡ map (λ p. get_or rows p d) places
  mapped rows [] d have = refl
  mapped rows (p ∷ ps) d have = rw (slice_get-get_or rows p d have.0) (ap (λ xs. get_or rows p d ∷ xs) (mapped rows ps d have.1))

  pub length-rows_at : (rows : List R) (places : List ℕ) → HaveRows rows places → length (rows_at rows places) ≡ length places
  length-rows_at rows [] have = refl
  length-rows_at [] (p ∷ ps) have = absurd (omega (arith, have.0))
  length-rows_at (x ∷ xs) (p ∷ ps) have = ap length (mapped (x ∷ xs) (p ∷ ps) x have) ∙ length-map (p ∷ ps) (λ q. get_or (x ∷ xs) q x)

  pub get_or-rows_at : (rows : List R) (places : List ℕ) (i : ℕ) (d : R) (e : ℕ) → HaveRows rows places → i < length places → get_or (rows_at rows places) i d ≡ get_or rows (get_or places i e) d
  get_or-rows_at rows places i d e have lt = ap (λ xs. get_or xs i d) (mapped rows places d have) ∙ get_or-map (λ p. get_or rows p d) places i e d lt

  pub placed_has_row : (rows : List R) (places : List ℕ) (i e : ℕ) → HaveRows rows places → i < length places → get_or places i e < length rows
  placed_has_row rows [] i e have lt = absurd (omega arith)
  placed_has_row rows (p ∷ ps) zero e have lt = have.0
  placed_has_row rows (p ∷ ps) (suc i) e have lt = placed_has_row rows ps i e have.1 (omega arith)

  pub have_set : (rows : List R) (place : ℕ) (new : R) (places : List ℕ) → HaveRows rows places → HaveRows (set rows place new) places
  have_set rows place new [] have = tt
  have_set rows place new (p ∷ ps) have = (rw (length-set rows place new) have.0, have_set rows place new ps have.1)

  -- ---- a row is added behind the others
  module _ (rows : List R) (new : R) where
    placed_one_more : length (rows ++ new ∷ []) ≡ length rows + 1
    placed_one_more = length-append rows (new ∷ [])

    placed_still_there : (p : ℕ) → p < length rows → slice_get (rows ++ new ∷ []) p ≡ slice_get rows p
    placed_still_there p lt =
        slice_get-get_or (rows ++ new ∷ []) p new (omega (arith, placed_one_more, lt))
        ∙ ap (λ x. Some x) (get_or_append_left rows (new ∷ []) new p lt)
        ∙ sym (slice_get-get_or rows p new lt)

    now_there : slice_get (rows ++ new ∷ []) (length rows) ≡ Some new
    now_there = slice_get-get_or (rows ++ new ∷ []) (length rows) new (omega (arith, placed_one_more)) ∙ ap (λ x. Some x) (get_or-append_seam rows new [] new)

    pub have_more : (places : List ℕ) → HaveRows rows places → HaveRows (rows ++ new ∷ []) places
    have_more [] have = tt
    have_more (p ∷ ps) have = (omega (arith, placed_one_more, have.0), have_more ps have.1)

    pub have_inserted : (places : List ℕ) (i : ℕ) → HaveRows rows places → i ≤ length places → HaveRows (rows ++ new ∷ []) (insert places i (length rows))
    have_inserted places zero have le = (omega (arith, placed_one_more), have_more places have)
    have_inserted [] (suc i) have le = absurd (omega arith)
    have_inserted (p ∷ ps) (suc i) have le = (omega (arith, placed_one_more, have.0), have_inserted ps i have.1 (omega arith))

    -- it isn't seen until it has a place
    pub unseen : (places : List ℕ) → HaveRows rows places → rows_at (rows ++ new ∷ []) places ≡ rows_at rows places
    unseen [] have = refl
    unseen (p ∷ ps) have = rw (placed_still_there p have.0, unseen ps have.1) refl

    -- and then it is seen there
    pub inserted : (places : List ℕ) (i : ℕ) → HaveRows rows places → i ≤ length places → rows_at (rows ++ new ∷ []) (insert places i (length rows)) ≡ insert (rows_at rows places) i new
    inserted places zero have le = rw (now_there, unseen places have) refl
    inserted [] (suc i) have le = absurd (omega arith)
    inserted (p ∷ ps) (suc i) have le = rw (placed_still_there p have.0, slice_get-get_or rows p new have.0, inserted ps i have.1 (omega arith)) refl

module _ {K R : Type 0} (cmp : K → K → Ordering) (o : IsTotalOrder cmp) (key : R → K) where
  above_at : (a : K) (f : ℕ → R) (places : List ℕ) (i e : ℕ) → AllByRecursion (λ b. cmp a b ≡ Less) (map key (map f places)) → i < length places → cmp a (key (f (get_or places i e))) ≡ Less
  above_at a f [] i e above lt = absurd (omega arith)
  above_at a f (p ∷ ps) zero e above lt = above.0
  above_at a f (p ∷ ps) (suc i) e above lt = above_at a f ps i e above.1 (omega arith)

  -- no row is below itself
  placed_apart : (f : ℕ → R) (p q : ℕ) → cmp (key (f p)) (key (f q)) ≡ Less → p ≢ q
  placed_apart f p q lt is = false≢true (sym (ap is_eq (ap (λ r. cmp (key (f p)) (key (f r))) is ∙ lt)) ∙ ap is_eq (tied_itself o (key (f p))))

  -- ---- a row is written over, which one place shows
  module _ (rows : List R) (new : R) (place : ℕ) (inside : place < length rows) where
    abbrev old_at : ℕ → R
    old_at p = get_or rows p new

    abbrev new_at : ℕ → R
    new_at p = get_or (set rows place new) p new

    placed_untouched : (places : List ℕ) → AllByRecursion (λ b. cmp (key (old_at place)) b ≡ Less) (map key (map old_at places)) → map new_at places ≡ map old_at places
    placed_untouched [] above = refl
    placed_untouched (p ∷ ps) above = rw (get_or-set_other rows place p new new (λ is. placed_apart old_at place p above.0 (sym is)), placed_untouched ps above.1) refl

    written : (places : List ℕ) (i : ℕ) → IsStrictlySortedBy cmp (map key (map old_at places)) → i < length places → place ≡ get_or places i 0 → map new_at places ≡ set (map old_at places) i new
    unfolding IsStrictlySortedBy
    written [] i ordered lt is = absurd (omega arith)
    written (p ∷ ps) zero ordered lt is =
        let above = subst (λ q. AllByRecursion (λ b. cmp (key (old_at q)) b ≡ Less) (map key (map old_at ps))) (sym is) ordered.0 in
        rw (← is, get_or-set_same rows place new new inside, placed_untouched ps above) refl
    written (p ∷ ps) (suc i) ordered lt is =
        let below = subst (λ q. cmp (key (old_at p)) (key (old_at q)) ≡ Less) (sym is) (above_at (key (old_at p)) old_at ps i 0 ordered.0 (omega arith)) in
        rw (get_or-set_other rows place p new new (placed_apart old_at p place below), written ps i ordered.1 (omega arith) is) refl

  -- of rows in the order of their keys, the one at a place is written over
  pub set_at : (rows : List R) (places : List ℕ) (new : R) (place i : ℕ) → HaveRows rows places → IsInKeyOrder cmp key (rows_at rows places) → i < length places → place ≡ get_or places i 0 → rows_at (set rows place new) places ≡ set (rows_at rows places) i new
  set_at rows places new place i have ordered lt is =
      let inside : place < length rows = subst (λ p. p < length rows) (sym is) (placed_has_row rows places i 0 have lt) in
      mapped (set rows place new) places new (have_set rows place new places have)
      ∙ written rows new place inside places i (subst (IsInKeyOrder cmp key) (mapped rows places new have) ordered) lt is
      ∙ ap (λ xs. set xs i new) (sym (mapped rows places new have))
