-- The rows of one owner, after a put.
use Rattle.std.proofs.Common.{◌≡◌, ◌⊎◌, inl, inr, Bool, true, false, cond, List, [], ◌∷◌, refl, sym, ap, subst₂, ◌∙◌, filter, IsPermutation}
use Rattle.toll_sql.proofs.Common.{AllByRecursion, is_eq, IsPermutation-filter, Row, column, value_cmp, Text, Bytes, SameBag, all_cells, owned_by, cells_of, ReplacesOrAdds, IsRowAdded}
use Rattle.toll_sql.proofs.Bags.{total_permuted, cells_permuted}

module _ (o : Bytes) where
  abbrev pub is_own_row : Row → Bool
  is_own_row row = is_eq (value_cmp (column row 1) (Text o))

  abbrev pub owns_row : Row → Bool
  owns_row cells = is_eq (value_cmp (column cells 0) (Text o))

  pub own_is : (r : Row) → is_own_row r ≡ owns_row (cells_of r)
  own_is [] = refl
  own_is (v ∷ r) = refl

  part_one : (r : Row) (fs gs : List Row) (a b : Bool) → a ≡ b → all_cells fs ≡ gs → all_cells (cond a (r ∷ fs) fs) ≡ cond b (cells_of r ∷ gs) gs
  part_one r fs gs true true e h = ap (λ l. cells_of r ∷ l) h
  part_one r fs gs true false e h = absurd (cc)
  part_one r fs gs false true e h = absurd (cc)
  part_one r fs gs false false e h = h

  parted : (rows : List Row) → all_cells (filter is_own_row rows) ≡ filter owns_row (all_cells rows)
  parted [] = refl
  parted (r ∷ rows) = part_one r _ _ (is_own_row r) (owns_row (cells_of r)) (own_is r) (parted rows)

  kept_all : (P : Row → Type 0) (rows : List Row) → AllByRecursion P rows → AllByRecursion P (filter is_own_row rows)
  kept_all P [] h = tt
  kept_all P (r ∷ rows) h = elim (is_own_row r) as (λ b. AllByRecursion P (cond b (r ∷ filter is_own_row rows) (filter is_own_row rows))) [ true ↦ (h.0, kept_all P rows h.1) | false ↦ kept_all P rows h.1 ]

  module _ (has_key : Row → Bool) (cells : Row) (old new : List Row) where
    pub own_part : owns_row cells ≡ true → ((r : Row) → has_key r ≡ true → is_own_row r ≡ true) → ReplacesOrAdds has_key cells old new ⊎ IsRowAdded has_key cells old new
        → ReplacesOrAdds has_key cells (owned_by o old) (owned_by o new) ⊎ IsRowAdded has_key cells (owned_by o old) (owned_by o new)
    own_part mine its (inl h) =
        let p = rw (its h.0 h.2) at (IsPermutation-filter is_own_row old (h.0 ∷ h.1) h.3) in
        let q = rw mine at (IsPermutation-filter owns_row (cells ∷ all_cells h.1) (all_cells new) h.4) in
        inl (h.0, filter is_own_row h.1, h.2, p, subst₂ (λ a b. IsPermutation (cells ∷ a) b) (sym (parted h.1)) (sym (parted new)) q)
    own_part mine its (inr h) =
        let q = rw mine at (IsPermutation-filter owns_row (cells ∷ all_cells old) (all_cells new) h.1) in
        inr (kept_all (λ r. has_key r ≡ false) old h.0, subst₂ (λ a b. IsPermutation (cells ∷ a) b) (sym (parted old)) (sym (parted new)) q)

    pub other_part : owns_row cells ≡ false → ((r : Row) → has_key r ≡ true → is_own_row r ≡ false) → ReplacesOrAdds has_key cells old new ⊎ IsRowAdded has_key cells old new → SameBag (all_cells (owned_by o old)) (all_cells (owned_by o new))
    other_part mine its (inl h) f =
        let p = rw (its h.0 h.2) at (IsPermutation-filter is_own_row old (h.0 ∷ h.1) h.3) in
        let q = rw mine at (IsPermutation-filter owns_row (cells ∷ all_cells h.1) (all_cells new) h.4) in
        cells_permuted _ _ p f ∙ total_permuted f _ _ (subst₂ (λ a b. IsPermutation a b) (sym (parted h.1)) (sym (parted new)) q)
    other_part mine its (inr h) f =
        let q = rw mine at (IsPermutation-filter owns_row (cells ∷ all_cells old) (all_cells new) h.1) in
        total_permuted f _ _ (subst₂ (λ a b. IsPermutation a b) (sym (parted old)) (sym (parted new)) q)
