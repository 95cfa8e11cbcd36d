-- Puts by a key, over the cells of a table's rows; two puts in either order give the same rows.
use Rattle.std.proofs.Common.{◌≡◌, ◌⊎◌, inl, inr, ℕ, zero, suc, ◌<◌, Bool, true, false, List, [], ◌∷◌, ◌++◌, length, refl, sym, ap, subst, ◌∙◌, slice_index_or, not, filter, IsPermutation}
use Rattle.std.specs.List.{swap, slice_set}
use Rattle.std.proofs.lemmas.List.Sorted.{IsPermutation-append_left, IsPermutation-append_right, IsPermutation-keeps, IsPermutation-swap}
use Rattle.toll_sql.proofs.Common.{cases_Bool, length-map, AllByRecursion, IsPermutation-cons, IsPermutation-filter, IsPermutation-filter_both, IsPermutation-middle, IsPermutation-refl, IsPermutation-sym, IsPermutation-trans, all-permutation, Row, map-set, all_cells, cells_of}

-- ---- lists

rows_swapped : (a b : Row) (xs : List Row) → IsPermutation (a ∷ b ∷ xs) (b ∷ a ∷ xs)
rows_swapped a b xs = IsPermutation-middle (a ∷ []) b xs

-- If a list with e is one with w, and w alone passes a test, then each list has both.
exchange : (p : Row → Bool) (e w : Row) (xs ys : List Row) → p e ≡ false → p w ≡ true → IsPermutation (e ∷ xs) (w ∷ ys) → (rest : List Row) × IsPermutation xs (w ∷ rest) × IsPermutation ys (e ∷ rest)
exchange p e w xs ys fails passes h =
    let others = λ (c : Row). not (p c) in
    let passing : IsPermutation (filter p xs) (w ∷ filter p ys) = rw (fails, passes) at (IsPermutation-filter p (e ∷ xs) (w ∷ ys) h) in
    let failing : IsPermutation (e ∷ filter others xs) (filter others ys) = rw (fails, passes) at (IsPermutation-filter others (e ∷ xs) (w ∷ ys) h) in (
      filter p ys ++ filter others xs,
      IsPermutation-trans xs (filter p xs ++ filter others xs) (w ∷ (filter p ys ++ filter others xs)) (IsPermutation-filter_both p others (λ _. refl) xs) (IsPermutation-append_left (filter others xs) (filter p xs) (w ∷ filter p ys) passing),
      IsPermutation-trans ys (filter p ys ++ filter others ys) (e ∷ (filter p ys ++ filter others xs)) (IsPermutation-filter_both p others (λ _. refl) ys) (
          IsPermutation-trans (filter p ys ++ filter others ys) (filter p ys ++ e ∷ filter others xs) (e ∷ (filter p ys ++ filter others xs))
          (IsPermutation-append_right (filter p ys) (filter others ys) (e ∷ filter others xs) (IsPermutation-sym (e ∷ filter others xs) (filter others ys) failing)) (IsPermutation-middle (filter p ys) e (filter others xs))
          ),
    )

-- ---- puts

-- One row with the key has these cells now; or none had it, and they are added.
abbrev pub Replaces : (Row → Bool) → Row → List Row → List Row → Type 0
Replaces key cells old new = (was : Row) × (rest : List Row) × (key was ≡ true) × IsPermutation old (was ∷ rest) × IsPermutation (cells ∷ rest) new

abbrev pub AddsRow : (Row → Bool) → Row → List Row → List Row → Type 0
AddsRow key cells old new = AllByRecursion (λ r. key r ≡ false) old × IsPermutation (cells ∷ old) new

abbrev pub PutsCells : (Row → Bool) → Row → List Row → List Row → Type 0
PutsCells key cells old new = Replaces key cells old new ⊎ AddsRow key cells old new

-- Other cells with the key may be put before: the put overwrites them.
pub overwritten : (key : Row → Bool) (first last : Row) (old new : List Row) → key first ≡ true → PutsCells key last old new → (mid : List Row) × PutsCells key first old mid × PutsCells key last mid new
overwritten key first last old new its (inl h) = (first ∷ h.1, inl (h.0, h.1, h.2, h.3, IsPermutation-refl (first ∷ h.1)), inl (first, h.1, its, IsPermutation-refl (first ∷ h.1), h.4))
overwritten key first last old new its (inr h) = (first ∷ old, inr (h.0, IsPermutation-refl (first ∷ old)), inl (first, old, its, IsPermutation-refl (first ∷ old), h.1))

-- Of two puts with other keys, the later may come first.
module _ (early late : Row → Bool) (apart : (r : Row) → early r ≡ true → late r ≡ true → ⊥) where
  not_late : (r : Row) → early r ≡ true → late r ≡ false
  not_late r h = elim (cases_Bool (late r)) [
    | inl it ↦ absurd (apart r h it)
    | inr other ↦ other
  ]

  not_early : (r : Row) → late r ≡ true → early r ≡ false
  not_early r h = elim (cases_Bool (early r)) [
    | inl it ↦ absurd (apart r it h)
    | inr other ↦ other
  ]

  module _ (e c : Row) (e_key : early e ≡ true) (c_key : late c ≡ true) where
    -- Adding e and then c gives the same rows as adding c and then e.
    cell_turned : (rest more new : List Row) → IsPermutation more (e ∷ rest) → IsPermutation (c ∷ more) new → IsPermutation (e ∷ c ∷ rest) new
    cell_turned rest more new one two =
        IsPermutation-trans (e ∷ c ∷ rest) (c ∷ e ∷ rest) new (rows_swapped e c rest) (IsPermutation-trans (c ∷ e ∷ rest) (c ∷ more) new (IsPermutation-cons c (e ∷ rest) more (IsPermutation-sym more (e ∷ rest) one)) two)

    pub late_first : (old mid new : List Row) → PutsCells early e old mid → PutsCells late c mid new → (other : List Row) × PutsCells late c old other × PutsCells early e other new
    late_first old mid new (inl h) (inl g) =
        let it = exchange late e g.0 h.1 g.1 (not_late e e_key) g.2 (IsPermutation-trans (e ∷ h.1) mid (g.0 ∷ g.1) h.4 g.3) in
        let rest = it.0 in
        let was : IsPermutation old (g.0 ∷ h.0 ∷ rest) = IsPermutation-trans old (h.0 ∷ h.1) (g.0 ∷ h.0 ∷ rest) h.3 (IsPermutation-trans (h.0 ∷ h.1) (h.0 ∷ g.0 ∷ rest) (g.0 ∷ h.0 ∷ rest) (IsPermutation-cons h.0 h.1 (g.0 ∷ rest) it.1) (rows_swapped h.0 g.0 rest)) in
        (c ∷ h.0 ∷ rest, inl (g.0, h.0 ∷ rest, g.2, was, IsPermutation-refl (c ∷ h.0 ∷ rest)), inl (h.0, c ∷ rest, h.2, rows_swapped c h.0 rest, cell_turned rest g.1 new it.2 g.4))
    late_first old mid new (inl h) (inr g) =
        let none = all-permutation (λ r. late r ≡ false) mid (e ∷ h.1) (IsPermutation-sym (e ∷ h.1) mid h.4) g.0 in
        let before = all-permutation (λ r. late r ≡ false) (h.0 ∷ h.1) old (IsPermutation-sym old (h.0 ∷ h.1) h.3) (not_late h.0 h.2, none.1) in
        (c ∷ h.0 ∷ h.1, inr (before, IsPermutation-cons c old (h.0 ∷ h.1) h.3), inl (h.0, c ∷ h.1, h.2, rows_swapped c h.0 h.1, cell_turned h.1 mid new (IsPermutation-sym (e ∷ h.1) mid h.4) g.1))
    late_first old mid new (inr h) (inl g) =
        let it = exchange late e g.0 old g.1 (not_late e e_key) g.2 (IsPermutation-trans (e ∷ old) mid (g.0 ∷ g.1) h.1 g.3) in
        let rest = it.0 in
        let none = all-permutation (λ r. early r ≡ false) old (g.0 ∷ rest) it.1 h.0 in
        (c ∷ rest, inl (g.0, rest, g.2, it.1, IsPermutation-refl (c ∷ rest)), inr ((not_early c c_key, none.1), cell_turned rest g.1 new it.2 g.4))
    late_first old mid new (inr h) (inr g) =
        let none = all-permutation (λ r. late r ≡ false) mid (e ∷ old) (IsPermutation-sym (e ∷ old) mid h.1) g.0 in
        (c ∷ old, inr (none.1, IsPermutation-refl (c ∷ old)), inr ((not_early c c_key, h.0), cell_turned old mid new (IsPermutation-sym (e ∷ old) mid h.1) g.1))

-- ---- stored rows whose cells are in another order

at_map : (rows : List Row) (i : ℕ) (d : Row) → slice_index_or (all_cells rows) i (cells_of d) ≡ cells_of (slice_index_or rows i d)
at_map [] i d = refl
at_map (r ∷ rows) zero d = refl
at_map (r ∷ rows) (suc i) d = at_map rows i d

swapped_cells : (rows : List Row) (i j : ℕ) → all_cells (swap rows i j) ≡ swap (all_cells rows) i j
swapped_cells [] i j = refl
swapped_cells (r ∷ rows) i j =
    let all = r ∷ rows in
    map-set cells_of (slice_set all i (slice_index_or all j r)) j (slice_index_or all i r)
    ∙ ap (λ l. slice_set l j (cells_of (slice_index_or all i r))) (map-set cells_of all i (slice_index_or all j r) ∙ ap (slice_set (all_cells all) i) (sym (at_map all j r)))
    ∙ ap (slice_set (slice_set (all_cells all) i (slice_index_or (all_cells all) j (cells_of r))) j) (sym (at_map all i r))

abbrev pub Stored : List Row → List Row → Type 0
Stored rows cells = (moved : List Row) × IsPermutation rows moved × (all_cells moved ≡ cells)

pub stored : (rows cells : List Row) → IsPermutation (all_cells rows) cells → Stored rows cells
stored rows cells = IsPermutation-keeps (all_cells rows) (Stored rows) (rows, IsPermutation-refl rows, refl) (λ l i j low high h.
    let inside = λ (n : ℕ) (lt : n < length l). subst (λ m. n < m) (ap length (sym h.2) ∙ length-map h.0 cells_of) lt in
    (swap h.0 i j, IsPermutation-trans rows h.0 (swap h.0 i j) h.1 (IsPermutation-swap h.0 (swap h.0 i j) i j (inside i low) (inside j high) refl), swapped_cells h.0 i j ∙ ap (λ cs. swap cs i j) h.2)) cells
