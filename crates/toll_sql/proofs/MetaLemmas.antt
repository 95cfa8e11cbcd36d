-- The version in the rows of `meta`.
use Rattle.std.proofs.Common.{◌≡◌, ◌≢◌, ◌≤◌, ◌-◌, inl, inr, ℕ, suc, pos, List, [], ◌∷◌, map, length, take, drop, get_or, arith, Option, None, Some, IfSome, codes, refl, ap, subst, ◌∙◌, IsPermutation}
use Rattle.toll_sql.proofs.Common.{AllByRecursion, take-length, IsPermutation-sym, Database, Row, column, Trees, Int, Text, all-permutation, ShowsMeta, all_cells, cells_of, columns_from, meta_cells, HasVersion, IsVersionIn, HaveNeitherVersion, HasVersionRow, first_version, meta_rows, version, AreAll, PutsRow, tree_of, width_of, Meta}
use Rattle.toll_sql.proofs.ReadLemmas.{read_rows}

abbrev HasVersionCells : ℕ → Row → Type 0
HasVersionCells n row = (column row 0 ≡ Text (codes "toll")) × (column row 1 ≡ Int (pos n))

module _ (n : ℕ) where
  all_ways : (rows : List Row) (G : Type 0) → (HasVersionRow n rows → G) → AllByRecursion (λ row. HasVersionCells n row → G) rows
  all_ways [] G f = tt
  all_ways (row ∷ rows) G f = (λ t. f (inl t), all_ways rows G (λ h. f (inr h)))

  pick : (rows : List Row) (G : Type 0) → AllByRecursion (λ row. HasVersionCells n row → G) rows → HasVersionRow n rows → G
  pick [] G all h = absurd h
  pick (row ∷ rows) G all (inl t) = all.0 t
  pick (row ∷ rows) G all (inr h) = pick rows G all.1 h

  tells_permuted : (xs ys : List Row) → IsPermutation xs ys → HasVersionRow n xs → HasVersionRow n ys
  tells_permuted xs ys same h = pick xs (HasVersionRow n ys) (all-permutation (λ row. HasVersionCells n row → HasVersionRow n ys) ys xs (IsPermutation-sym xs ys same) (all_ways ys (HasVersionRow n ys) (λ t. t))) h

  column_behind : (row : Row) (i : ℕ) → column (cells_of row) i ≡ column row (suc i)
  column_behind [] i = refl
  column_behind (v ∷ row) i = refl

  version_behind : (stored : List Row) → HasVersionRow n (map (columns_from 1 (width_of Meta)) stored) → HasVersionRow n (all_cells stored)
  version_behind [] h = absurd h
  version_behind (row ∷ stored) (inl t) = inl (column_behind row 0 ∙ t.0, column_behind row 1 ∙ t.1)
  version_behind (row ∷ stored) (inr h) = inr (version_behind stored h)

  -- The table `meta` has the version that the answered rows have.
  pub told_stored : (db : Trees) (rows : List Row) → AreAll Meta db rows → HasVersionRow n rows → HasVersionRow n (meta_rows db)
  told_stored db rows read h = version_behind (db (tree_of Meta)) (tells_permuted rows (map (columns_from 1 (width_of Meta)) (db (tree_of Meta))) (IsPermutation-sym (map (columns_from 1 (width_of Meta)) (db (tree_of Meta))) rows read.same) h)

  -- A version that was put is there.
  pub put_told : (old new : Trees) → PutsRow Meta (meta_cells n) old new → HasVersionRow n (meta_rows new)
  put_told old new h = elim h.here [
    | inl it ↦ tells_permuted (meta_cells n ∷ all_cells it.1) (meta_rows new) it.4 (inl (refl, refl))
    | inr it ↦ tells_permuted (meta_cells n ∷ all_cells (old (tree_of Meta))) (meta_rows new) it.1 (inl (refl, refl))
  ]

  -- A single row has its version.
  told_alone : (rows : List Row) (reported : Option ℕ) → rows ≡ meta_cells n ∷ [] → IsVersionIn rows reported → reported ≡ Some n
  told_alone rows reported is v = let it : IsVersionIn (meta_cells n ∷ []) reported = subst (λ xs. IsVersionIn xs reported) is v in it.every n (inl (refl, refl)) ((λ _. refl), tt)

version_in : (db : Trees) (rows : List Row) (reported : Option ℕ) → AreAll Meta db rows → IsVersionIn rows reported → IfSome reported (λ n. HasVersionRow n (meta_rows db))
version_in db rows reported read v = some reported v.some
  where
    some : (reported : Option ℕ) → IfSome reported (λ n. HasVersionRow n rows) → IfSome reported (λ n. HasVersionRow n (meta_rows db))
    some None h = tt
    some (Some n) h = told_stored n db rows read h

-- The version in the answered rows.
module _ (db : Trees) (rows shown : List Row) (is : shown ≡ rows) (reported : Option ℕ) (tells : IsVersionIn shown reported) (read : AreAll Meta db rows) where
  pub read_alone : (n : ℕ) → HasVersion n db → reported ≡ Some n
  read_alone n has = told_alone n shown reported (is ∙ read_rows Meta (db (tree_of Meta)) rows (meta_cells n ∷ []) read has (refl, tt)) tells

  pub read_told : IfSome reported (λ n. HasVersionRow n (meta_rows db))
  read_told = version_in db rows reported read (subst (λ xs. IsVersionIn xs reported) is tells)

-- A row with another name has no effect.
pub skipped : (row : Row) (rows : List Row) (reported : Option ℕ) → (column row 0 ≢ Text (codes "toll")) → IsVersionIn rows reported → IsVersionIn (row ∷ rows) reported
skipped row rows reported other v = record {
  some = some reported v.some;
  every = λ n h each. elim h [ inl t ↦ absurd (other t.0) | inr more ↦ v.every n more each.1 ];
}
  where
    some : (reported : Option ℕ) → IfSome reported (λ n. HasVersionRow n rows) → IfSome reported (λ n. HasVersionRow n (row ∷ rows))
    some None h = tt
    some (Some n) h = inr h

pub after_first : (rows : List Row) (first : Row) (reported : Option ℕ) → 1 ≤ length rows → first ≡ get_or rows 0 first → (column first 0 ≢ Text (codes "toll")) → IsVersionIn (take (length rows - 1) (drop 1 rows)) reported → IsVersionIn rows reported
after_first [] first reported some is other v = absurd (omega (arith, some))
after_first (row ∷ rows) first reported some is other v =
    let less : length (row ∷ rows) - 1 ≡ length rows = omega arith in
    let rest : IsVersionIn (take (length rows) rows) reported = subst (λ n. IsVersionIn (take n rows) reported) less v in
    skipped row rows reported (λ same. other (ap (λ r. column r 0) is ∙ same)) (subst (λ xs. IsVersionIn xs reported) (take-length rows) rest)

-- The version that was found.
module _ (db : Database) (reported : Option ℕ) (h : ShowsMeta (λ rows. IsVersionIn rows reported) db) where
  pub shows_it : (n : ℕ) → reported ≡ Some n → ShowsMeta (HasVersionRow n) db
  shows_it n is = (h.0, h.1, subst (λ (x : Option ℕ). IfSome x (λ m. HasVersionRow m h.0)) is h.2.some)

  pub shows_neither : reported ≢ Some first_version → reported ≢ Some version → ShowsMeta HaveNeitherVersion db
  shows_neither first this = (h.0, h.1, λ n some each which. elim which [ inl is ↦ first (h.2.every n some each ∙ ap Some is) | inr is ↦ this (h.2.every n some each ∙ ap Some is) ])
