-- The rows of a table that holds those of a slice, one by one.
use Rattle.std.proofs.Common.{◌≡◌, inl, inr, ℕ, suc, ◌+◌, Bool, true, false, cond, IsTrue, List, [], ◌∷◌, map, drop, refl, sym, ap, subst, ◌∙◌, arith, Contains}
use Rattle.toll_sql.proofs.Common.{false≢true, AllByRecursion, is_eq, tied_itself, overlay, Trees, Row, column, value_cmp, row_cmp, Value, Text, Has, value_cmp_total, Bytes, Slice, is_name, Contains-none, Contains-here, Contains-later, Contains-cases, Contains-map, Contains-from_map, Contains-filter, Contains-from_filter, member_of_all, or_cases, SameBag, total, all_cells, owned_by, cells_of, fill, HoldsEach, HoldsPart, NamesOwner, table_of, tree_of, TableKind}
use Rattle.toll_sql.proofs.Keyed.{column_behind_rowid, cells_are}
use Rattle.toll_sql.proofs.LookLemmas.{cells_fill}
use Rattle.toll_sql.proofs.ReadLemmas.{IsItself, same_row, row_itself, read_found, among, stray, none_stray, row_exact}

-- ---- members of lists

pub has_it : {X : Type 0} (xs : List X) (x : X) → Contains xs x → Has xs x
has_it [] x i = absurd (Contains-none x i)
has_it (y ∷ xs) x i = elim (Contains-cases y xs x i) [ inl e ↦ inl (sym e) | inr j ↦ inr (has_it xs x j) ]

pub contains_it : {X : Type 0} (xs : List X) (x : X) → Has xs x → Contains xs x
contains_it [] x h = absurd h
contains_it (y ∷ xs) x (inl e) = subst (λ z. Contains (y ∷ xs) z) (sym e) (Contains-here y xs)
contains_it (y ∷ xs) x (inr h) = Contains-later y xs x (contains_it xs x h)

-- ---- lists with the same rows have the same members

counts_itself : (x : Row) (xs : List Row) → IsItself x → Has xs x → (n : ℕ) × (suc n ≡ total (λ v. cond (same_row v x) 1 0) xs)
counts_itself x [] own has = absurd has
counts_itself x (y ∷ xs) own (inl e) =
    let one : cond {A = ℕ} (same_row y x) 1 0 ≡ 1 = ap (λ r. cond (same_row r x) 1 0) (sym e) ∙ ap (λ b. cond b 1 0) own in
    (total (λ v. cond (same_row v x) 1 0) xs, omega (arith, one))
counts_itself x (y ∷ xs) own (inr h) = let more = counts_itself x xs own h in (cond (same_row y x) 1 0 + more.0, omega (arith, more.1))

unstrayed : (ls rows : List Row) → total (stray ls) rows ≡ 0 → (row : Row) → Has rows row → among ls row ≡ true
unstrayed ls [] h row has = absurd has
unstrayed ls (r ∷ rows) h row (inl e) = ap (among ls) e ∙ at (among ls r) refl
  where
    at : (b : Bool) → among ls r ≡ b → among ls r ≡ true
    at true is = is
    at false is = absurd (let one : stray ls r ≡ 1 = ap (λ b. cond b 0 1) is in omega (arith, h, one))
unstrayed ls (r ∷ rows) h row (inr more) = unstrayed ls rows (omega (arith, h)) row more

is_among : (ls : List Row) (row : Row) → among ls row ≡ true → Has ls row
is_among [] row h = absurd (false≢true h)
is_among (l ∷ ls) row h = elim (or_cases (same_row l row) (among ls row) h) [
  | inl hit ↦ inl (sym (row_exact l row hit))
  | inr later ↦ inr (is_among ls row later)
]

module _ (xs ys : List Row) (same : SameBag xs ys) (itself : AllByRecursion IsItself xs) where
  itself_at : (ls : List Row) → AllByRecursion IsItself ls → (x : Row) → Has ls x → IsItself x
  itself_at [] all x has = absurd has
  itself_at (l ∷ ls) all x (inl e) = subst IsItself (sym e) all.0
  itself_at (l ∷ ls) all x (inr h) = itself_at ls all.1 x h

  none_less : (x : Row) → Has xs x → Has ys x
  none_less x has = let one = counts_itself x xs (itself_at xs itself x has) has in read_found row_cmp x ys one.0 (one.1 ∙ same (λ v. cond (same_row v x) 1 0))

  none_more : (y : Row) → Has ys y → Has xs y
  none_more y has = is_among xs y (unstrayed xs ys (sym (same (stray xs)) ∙ none_stray xs xs (λ row h. h) itself) y has)

-- ---- a table that has the rows of a list

-- The owner's rows of the table are these, after their rowids.
pub record AreRowsOfOwner {X : Type 0} (o : Bytes) (cells : X → Row) (rows : List X) (table : List Row) : Type 0 where
  pub only : (r : Row) → Contains table r → column r 1 ≡ Text o → (id : Value) × (x : X) × Contains rows x × (r ≡ id ∷ cells x)
  pub every : (x : X) → Contains rows x → (id : Value) × Contains table (id ∷ cells x)

headed : (r : Row) (v : Value) (cells : Row) → cells_of r ≡ v ∷ cells → (id : Value) × (r ≡ id ∷ v ∷ cells)
headed [] v cells h = absurd (let e : ◌≡◌ {A = Row} [] (v ∷ cells) = h in cc)
headed (id ∷ r) v cells h = (id, ap (λ cs. id ∷ cs) h)

cells_themselves : (k : TableKind) (ls : List Row) → AllByRecursion (λ cells. fill k cells ≡ true) ls → AllByRecursion IsItself ls
cells_themselves k [] all = tt
cells_themselves k (cells ∷ ls) all = (row_itself cells (cells_are (table_of k).columns cells all.0), cells_themselves k ls all.1)

module _ {X : Type 0} (k : TableKind) (o : Bytes) (cells : X → Row) (rows : List X) (table : List Row) (owned : (x : X) → Text o ∷ drop 1 (cells x) ≡ cells x) (fits : (x : X) → fill k (cells x) ≡ true) (same : SameBag (map cells rows) (all_cells (owned_by o table))) where
  member_itself : AllByRecursion IsItself (map cells rows)
  member_itself = cells_themselves k (map cells rows) (cells_fill k cells fits rows)

  at_cells : (r : Row) (x : X) → cells_of r ≡ cells x → (id : Value) × (r ≡ id ∷ cells x)
  at_cells r x h = let b = headed r (Text o) (drop 1 (cells x)) (h ∙ sym (owned x)) in (b.0, b.1 ∙ ap (λ cs. b.0 ∷ cs) (owned x))

  only_these : (r : Row) → Contains table r → column r 1 ≡ Text o → (id : Value) × (x : X) × Contains rows x × (r ≡ id ∷ cells x)
  only_these r i h =
      let mine : is_eq (value_cmp (column r 1) (Text o)) ≡ true = ap (λ v. is_eq (value_cmp v (Text o))) h ∙ ap is_eq (tied_itself value_cmp_total (Text o)) in
      let shown = Contains-map cells_of (owned_by o table) r (Contains-filter (λ row. is_eq (value_cmp (column row 1) (Text o))) table r i mine) in
      let listed = contains_it (map cells rows) (cells_of r) (none_more (map cells rows) (all_cells (owned_by o table)) same member_itself (cells_of r) (has_it (all_cells (owned_by o table)) (cells_of r) shown)) in
      let x = Contains-from_map cells rows (cells_of r) listed in
      let b = at_cells r x.0 (sym x.2) in
      (b.0, x.0, x.1, b.1)

  each_there : (x : X) → Contains rows x → (id : Value) × Contains table (id ∷ cells x)
  each_there x i =
      let listed = none_less (map cells rows) (all_cells (owned_by o table)) same member_itself (cells x) (has_it (map cells rows) (cells x) (Contains-map cells rows x i)) in
      let r = Contains-from_map cells_of (owned_by o table) (cells x) (contains_it (all_cells (owned_by o table)) (cells x) listed) in
      let b = at_cells r.0 x r.2 in
      (b.0, subst (λ r. Contains table r) b.1 (Contains-from_filter (λ row. is_eq (value_cmp (column row 1) (Text o))) table r.0 r.1).0)

  pub rows_kept : AreRowsOfOwner o cells rows table
  rows_kept = record { only = only_these; every = each_there }

-- ---- tables that hold a content

-- the trees as a statement without WITH reads them
abbrev pub trees_seen : Trees → Trees
trees_seen db = overlay db []

-- A slice is held under its own name.
pub under_name : (is_such : TableKind → Bool) (db : Trees) (o : Bytes) (s : Slice) → HoldsPart is_such db o s → HoldsPart is_such db s.owner s
under_name is_such db o s has = subst (λ n. HoldsPart is_such db n s) (sym has.named) has

module _ (is_such : TableKind → Bool) (db : Trees) (rows : Bytes → Slice) (has : HoldsEach is_such db rows) where
  -- The same for each owner's slice.
  pub member_under : (o : Bytes) → HoldsPart is_such db (rows o).owner (rows o)
  member_under o = under_name is_such db o (rows o) (has.slices o)

  -- A stored row names its owner.
  pub named_owner : (k : TableKind) → is_such k ≡ true → (r : Row) → Contains (db (tree_of k)) r → (o : Bytes) × IsTrue (is_name o) × (column r 1 ≡ Text (rows o).owner)
  named_owner k such r i =
      let it = member_of_all NamesOwner _ _ (has.owned k such) (Contains-map _ (db (tree_of k)) r i) in
      (it.0, it.1, column_behind_rowid r 0 ∙ it.2 ∙ ap Text (sym (has.slices it.0).named))
