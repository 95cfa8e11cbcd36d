-- Rows that are put into trees, one put after another.
use Rattle.std.proofs.Common.{◌≡◌, ◌≢◌, ◌⊎◌, inl, inr, ℕ, suc, pos, ◌<◌, ◌==◌, Bool, true, false, List, [], ◌∷◌, IsTrue, refl, sym, ap, subst, subst₂, ◌∙◌, arith, Less, if◌then◌else◌, IsPermutation}
use Rattle.toll_sql.proofs.Common.{cases_Bool, eq-eqb, eqb-true, nat_tests, int_cmp, IsPermutation-map, AllByRecursion, IsAscending, IsShaped, Row, Schema, Table, Trees, rowid, value_cmp, value_cmp-Int, Int, all_cells, cells_of, IsRowAdded, ReplacesOrAdds, Puts}
use Rattle.sqlite_trees.specs.Tree.{with_tree}
use Rattle.sqlite_trees.specs.View.{is_int}
use Rattle.sqlite_trees.specs.declared.store.Shape.TheVariants as shape
use Rattle.toll_sql.proofs.CellPuts.{PutsCells, late_first, overwritten, stored}

-- ---- rows with these cells

-- these cells as rows, with rowids from this one on
abbrev with_rowids : ℕ → List Row → List Row
with_rowids n [] = []
with_rowids n (c ∷ cs) = (Int (pos n) ∷ c) ∷ with_rowids (suc n) cs

cells_numbered : (n : ℕ) (cs : List Row) → all_cells (with_rowids n cs) ≡ cs
cells_numbered n [] = refl
cells_numbered n (c ∷ cs) = ap (λ l. c ∷ l) (cells_numbered (suc n) cs)

tree_lower : (m n : ℕ) → m < n → int_cmp (pos m) (pos n) ≡ Less
tree_lower m n lt = grind (arith, nat_tests)

tree_below : (m n : ℕ) (cs : List Row) → m < n → AllByRecursion (λ r. value_cmp (Int (pos m)) (rowid r) ≡ Less) (with_rowids n cs)
tree_below m n [] lt = tt
tree_below m n (c ∷ cs) lt = (value_cmp-Int (pos m) (pos n) ∙ tree_lower m n lt, tree_below m (suc n) cs (omega (arith, lt)))

rising : (n : ℕ) (cs : List Row) → IsAscending (λ a b. value_cmp (rowid a) (rowid b) ≡ Less) (with_rowids n cs)
rising n [] = tt
rising n (c ∷ cs) = (tree_below n (suc n) cs (omega arith), rising (suc n) cs)

ids : (n : ℕ) (cs : List Row) → AllByRecursion (λ r. IsTrue (is_int (rowid r))) (with_rowids n cs)
ids n [] = tt
ids n (c ∷ cs) = (refl, ids (suc n) cs)

-- ---- one tree has other rows

tree_has : (db : Trees) (tree : ℕ) (rows : List Row) → with_tree db tree rows tree ≡ rows
tree_has db tree rows = ap (λ (b : Bool). if b then rows else db tree) (eq-eqb tree tree refl)

other_has : (db : Trees) (tree : ℕ) (rows : List Row) (n : ℕ) → n ≢ tree → with_tree db tree rows n ≡ db n
other_has db tree rows n other = elim (cases_Bool (n == tree)) [
  | inl same ↦ absurd (other (eqb-true n tree same))
  | inr differ ↦ ap (λ (b : Bool). if b then rows else db n) differ
]

-- rows with these cells
abbrev with_cells : Trees → ℕ → List Row → Trees
with_cells db tree cells = with_tree db tree (with_rowids 0 cells)

its_cells : (db : Trees) (tree : ℕ) (cells : List Row) → all_cells (with_cells db tree cells tree) ≡ cells
its_cells db tree cells = ap all_cells (tree_has db tree (with_rowids 0 cells)) ∙ cells_numbered 0 cells

its_shape : (db : Trees) (tree : ℕ) (cells : List Row) → IsShaped shape.Table (with_cells db tree cells tree)
its_shape db tree cells = subst (IsShaped shape.Table) (sym (tree_has db tree (with_rowids 0 cells))) (rising 0 cells, ids 0 cells)

-- ---- puts, over stored rows and over their cells

module _ (has_key key : Row → Bool) (reads : (r : Row) → has_key r ≡ key (cells_of r)) (cells : Row) (old new : List Row) where
  tree_none_read : (rows : List Row) → AllByRecursion (λ r. has_key r ≡ false) rows → AllByRecursion (λ c. key c ≡ false) (all_cells rows)
  tree_none_read [] h = tt
  tree_none_read (r ∷ rows) h = (sym (reads r) ∙ h.0, tree_none_read rows h.1)

  none_stored : (rows : List Row) → AllByRecursion (λ c. key c ≡ false) (all_cells rows) → AllByRecursion (λ r. has_key r ≡ false) rows
  none_stored [] h = tt
  none_stored (r ∷ rows) h = (reads r ∙ h.0, none_stored rows h.1)

  pub over_cells : ReplacesOrAdds has_key cells old new ⊎ IsRowAdded has_key cells old new → PutsCells key cells (all_cells old) (all_cells new)
  over_cells (inl h) = inl (cells_of h.0, all_cells h.1, sym (reads h.0) ∙ h.2, IsPermutation-map cells_of old (h.0 ∷ h.1) h.3, h.4)
  over_cells (inr h) = inr (tree_none_read old h.0, h.1)

  tree_replaced : (was : Row) (rest moved : List Row) → key was ≡ true → IsPermutation old moved → all_cells moved ≡ was ∷ rest → IsPermutation (cells ∷ rest) (all_cells new) → ReplacesOrAdds has_key cells old new
  tree_replaced was rest [] has from are to = absurd cc
  tree_replaced was rest (r ∷ rows) has from are to =
      let first : cells_of r ≡ was = cc in
      let others : all_cells rows ≡ rest = cc in
      (r, rows, reads r ∙ ap key first ∙ has, from, subst (λ l. IsPermutation (cells ∷ l) (all_cells new)) (sym others) to)

  pub over_rows : PutsCells key cells (all_cells old) (all_cells new) → ReplacesOrAdds has_key cells old new ⊎ IsRowAdded has_key cells old new
  over_rows (inl h) = let moved = stored old (h.0 ∷ h.1) h.3 in inl (tree_replaced h.0 h.1 moved.0 h.2 moved.1 moved.2 h.4)
  over_rows (inr h) = inr (none_stored old h.0, h.1)

-- ---- two puts

each_table : (P : ℕ → Type 0) (ts : List Table) → ((n : ℕ) → P n) → AllByRecursion (λ (t : Table). P t.tree) ts
each_table P [] all = tt
each_table P (t ∷ ts) all = (all t.tree, each_table P ts all)

two_steps : (P : ℕ → Type 0) (a b c : Trees) (ts : List Table) → AllByRecursion (λ (t : Table). P t.tree → b t.tree ≡ a t.tree) ts → AllByRecursion (λ (t : Table). P t.tree → c t.tree ≡ b t.tree) ts → AllByRecursion (λ (t : Table). P t.tree → c t.tree ≡ a t.tree) ts
two_steps P a b c [] one two = tt
two_steps P a b c (t ∷ ts) one two = (λ p. two.0 p ∙ one.0 p, two_steps P a b c ts one.1 two.1)

module _ (schema : Schema) (tree : ℕ) where
  abbrev IsOther : ℕ → Type 0
  IsOther n = n ≢ tree

  -- These cells are put into rows that make a tree of their own.
  tree_made : (has_key key : Row → Bool) (reads : (r : Row) → has_key r ≡ key (cells_of r)) (cells : Row) (old : Trees) (after : List Row) → PutsCells key cells (all_cells (old tree)) after → Puts schema tree has_key cells old (with_cells old tree after)
  tree_made has_key key reads cells old after put = record {
    here = over_rows has_key key reads cells (old tree) (with_cells old tree after tree) (subst (PutsCells key cells (all_cells (old tree))) (sym (its_cells old tree after)) put);
    others = each_table (λ n. IsOther n → with_cells old tree after n ≡ old n) schema.tables (other_has old tree (with_rowids 0 after));
    shaped = its_shape old tree after;
  }

  -- These cells are put into that tree.
  reached : (has_key key : Row → Bool) (reads : (r : Row) → has_key r ≡ key (cells_of r)) (cells : Row) (old new : Trees) (before : List Row) → AllByRecursion (λ (t : Table). IsOther t.tree → new t.tree ≡ old t.tree) schema.tables → IsShaped shape.Table (new tree)
      → PutsCells key cells before (all_cells (new tree)) → Puts schema tree has_key cells (with_cells old tree before) new
  reached has_key key reads cells old new before others shaped put = record {
    here = over_rows has_key key reads cells (with_cells old tree before tree) (new tree) (subst (λ l. PutsCells key cells l (all_cells (new tree))) (sym (its_cells old tree before)) put);
    others = two_steps IsOther (with_cells old tree before) old new schema.tables (each_table (λ n. IsOther n → old n ≡ with_cells old tree before n) schema.tables (λ n other. sym (other_has old tree (with_rowids 0 before) n other))) others;
    shaped = shaped;
  }

  -- Another put with the same key may come before.
  pub put_before : (first_has last_has key : Row → Bool) → ((r : Row) → first_has r ≡ key (cells_of r)) → ((r : Row) → last_has r ≡ key (cells_of r)) → (first last : Row) → key first ≡ true → (old new : Trees) → Puts schema tree last_has last old new
      → (mid : Trees) × Puts schema tree first_has first old mid × Puts schema tree last_has last mid new
  put_before first_has last_has key first_reads last_reads first last its old new put =
      let cells = overwritten key first last (all_cells (old tree)) (all_cells (new tree)) its (over_cells last_has key last_reads last (old tree) (new tree) put.here) in
      (with_cells old tree cells.0, tree_made first_has key first_reads first old cells.0 cells.1, reached last_has key last_reads last old new cells.0 put.others put.shaped cells.2)

  -- Of two puts with other keys, the later may come first.
  pub tree_put_first : (early_has late_has early late : Row → Bool) → ((r : Row) → early_has r ≡ early (cells_of r)) → ((r : Row) → late_has r ≡ late (cells_of r)) → ((r : Row) → early r ≡ true → late r ≡ true → ⊥)
      → (e c : Row) → early e ≡ true → late c ≡ true → (old mid new : Trees) → Puts schema tree early_has e old mid → Puts schema tree late_has c mid new → (other : Trees) × Puts schema tree late_has c old other × Puts schema tree early_has e other new
  tree_put_first early_has late_has early late early_reads late_reads apart e c e_key c_key old mid new one two =
      let cells = late_first early late apart e c e_key c_key (all_cells (old tree)) (all_cells (mid tree)) (all_cells (new tree)) (over_cells early_has early early_reads e (old tree) (mid tree) one.here)
      (over_cells late_has late late_reads c (mid tree) (new tree) two.here) in (
        with_cells old tree cells.0,
        tree_made late_has late late_reads c old cells.0 cells.1,
        reached early_has early early_reads e old new cells.0 (two_steps IsOther old mid new schema.tables one.others two.others) two.shaped cells.2,
      )

  -- A put into another tree may come first.
  module _ (other : ℕ) (apart : other ≢ tree) (early_has late_has : Row → Bool) (e c : Row) (old mid new : Trees) (kept : mid tree ≡ old tree) (stays : new other ≡ mid other) where
    abbrev aside : Trees
    aside = with_tree old tree (new tree)

    tree_still : (ts : List Table) → AllByRecursion (λ (t : Table). t.tree ≢ other → mid t.tree ≡ old t.tree) ts → AllByRecursion (λ (t : Table). IsOther t.tree → new t.tree ≡ mid t.tree) ts → AllByRecursion (λ (t : Table). t.tree ≢ other → new t.tree ≡ aside t.tree) ts
    tree_still [] one two = tt
    tree_still (t ∷ ts) one two =
        let at : t.tree ≢ other → new t.tree ≡ aside t.tree = λ elsewhere. elim (cases_Bool (t.tree == tree)) [
          | inl same ↦ (let is = eqb-true t.tree tree same in ap new is ∙ sym (ap aside is ∙ tree_has old tree (new tree)))
          | inr differ ↦ (let not : t.tree ≢ tree = λ is. absurd (let no = sym differ ∙ eq-eqb t.tree tree is in cc) in two.0 not ∙ one.0 elsewhere ∙ sym (other_has old tree (new tree) t.tree not))
        ] in
        (at, tree_still ts one.1 two.1)

    pub put_aside : Puts schema other early_has e old mid → Puts schema tree late_has c mid new → (db : Trees) × Puts schema tree late_has c old db × Puts schema other early_has e db new
    put_aside one two =
        let here = tree_has old tree (new tree) in (
          aside,
          record {
            here = subst₂ (λ a b. ReplacesOrAdds late_has c a b ⊎ IsRowAdded late_has c a b) kept (sym here) two.here;
            others = each_table (λ n. IsOther n → aside n ≡ old n) schema.tables (other_has old tree (new tree));
            shaped = subst (IsShaped shape.Table) (sym here) two.shaped;
          },
          record {
            here = subst₂ (λ a b. ReplacesOrAdds early_has e a b ⊎ IsRowAdded early_has e a b) (sym (other_has old tree (new tree) other apart)) (sym stays) one.here;
            others = tree_still schema.tables one.others two.others;
            shaped = subst (IsShaped shape.Table) (sym stays) one.shaped;
          },
        )
