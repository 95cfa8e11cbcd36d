-- Rows of a table by their rowids.
use Rattle.std.proofs.Common.{◌≡◌, inl, inr, ℤ, true, false, not, ◌||◌, List, [], ◌∷◌, ◌++◌, refl, sym, ap, subst, ◌∙◌, Ordering, Less, Equal, Greater, filter, IsPermutation}
use Rattle.toll_sql.proofs.Common.{is_eq, match_ordering, ordering_reverse, AllByRecursion, tied_itself, IsPermutation-refl, IsPermutation-cons, IsPermutation-trans, IsPermutation-middle, IsPermutation-filter_both, Int, Row, value_cmp, Has, is_taken, all_has, value_cmp_total}
use Rattle.sqlite.specs.Tree.{rowid, has_rowid, put_row, without_rowid, IsTable}

tree_none_below : (id : ℤ) (rows : List Row) → AllByRecursion (λ b. value_cmp (Int id) (rowid b) ≡ Less) rows → filter (has_rowid id) rows ≡ []
tree_none_below id [] h = refl
tree_none_below id (r ∷ rows) h =
    let above : value_cmp (rowid r) (Int id) ≡ Greater = value_cmp_total.antisymm (rowid r) (Int id) ∙ ap ordering_reverse h.0 in
    let out : has_rowid id r ≡ false = ap is_eq above in
    rw out (tree_none_below id rows h.1)

pub one_hit : (id : ℤ) (rows : List Row) (it : Row) → IsTable rows → Has rows it → rowid it ≡ Int id → filter (has_rowid id) rows ≡ it ∷ []
one_hit id [] it table h is = absurd h
one_hit id (r ∷ rows) it table (inl same) is =
    let at : rowid r ≡ Int id = ap rowid (sym same) ∙ is in
    let hit : has_rowid id r ≡ true = ap (λ v. is_eq (value_cmp v (Int id))) at ∙ ap is_eq (tied_itself value_cmp_total (Int id)) in
    rw (hit, tree_none_below id rows (rw at at table.0)) (ap (λ x. x ∷ []) (sym same))
one_hit id (r ∷ rows) it table (inr later) is =
    let below : value_cmp (rowid r) (rowid it) ≡ Less = all_has _ rows it table.0 later in
    let out : has_rowid id r ≡ false = ap is_eq (rw is at below) in
    rw out (one_hit id rows it table.1 later is)

pub parted_by_rowid : (id : ℤ) (rows : List Row) (it : Row) → IsTable rows → Has rows it → rowid it ≡ Int id → IsPermutation rows (it ∷ without_rowid id rows)
parted_by_rowid id rows it table has is = subst (λ front. IsPermutation rows (front ++ without_rowid id rows)) (one_hit id rows it table has is) (IsPermutation-filter_both (has_rowid id) (λ r. not (has_rowid id r)) (λ _. refl) rows)

tree_put_at : (new r : Row) (rows : List Row) → (is_taken rows new ≡ false → IsPermutation (new ∷ rows) (put_row new rows)) → (o : Ordering) → is_eq o || is_taken rows new ≡ false
    → IsPermutation (new ∷ r ∷ rows) (match_ordering o (r ∷ put_row new rows) (new ∷ rows) (new ∷ r ∷ rows))
tree_put_at new r rows later Less free = IsPermutation-trans _ _ _ (IsPermutation-middle (new ∷ []) r rows) (IsPermutation-cons r _ _ (later free))
tree_put_at new r rows later Equal free = absurd (let f : true ≡ false = free in cc)
tree_put_at new r rows later Greater free = IsPermutation-refl _

pub put_perm : (new : Row) (rows : List Row) → is_taken rows new ≡ false → IsPermutation (new ∷ rows) (put_row new rows)
put_perm new [] free = IsPermutation-refl _
put_perm new (r ∷ rows) free = tree_put_at new r rows (put_perm new rows) (value_cmp (rowid r) (rowid new)) free
