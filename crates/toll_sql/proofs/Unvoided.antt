-- A movement is voided if and only if the table of voids has a row with its key.
use Rattle.std.proofs.Common.{◌≡◌, ◌⊎◌, inl, inr, Bool, true, false, ◌&&◌, Option, Some, is_some, List, [], ◌∷◌, refl, sym, ap, subst, ◌∙◌, Contains, filter, if◌then◌else◌}
use Rattle.toll_sql.proofs.Common.{false≢true, is_eq, and_parts, exact_bytes, Row, column, or_nulls, Text, Bytes, bytes_cmp, row_at, VoidRow, Contains-none, Contains-here, Contains-later, Contains-cases, Contains-filter, Contains-from_filter, and_from, void_cells}
use Rattle.std.proofs.lemmas.Cmp.{tied_itself, nat_list_cmp_total}
use Rattle.std.proofs.lemmas.Map.Views.{tells_apart}
use Rattle.toll_sql.proofs.JoinTests.{equals, is_no_value, equals_text_only, texts_same, text_itself, text_is_value}
use Rattle.toll_sql.proofs.MemberRows.{AreRowsOfOwner}

abbrev void_with : List VoidRow → Bytes → Option VoidRow
void_with rows k = row_at bytes_cmp (λ row. row.key) rows k

found_void : (rows : List VoidRow) (k : Bytes) → is_some (void_with rows k) ≡ true → (row : VoidRow) × Contains rows row × (row.key ≡ k)
unfolding row_at
found_void [] k h = absurd (false≢true h)
found_void (r ∷ rows) k h = go (is_eq (bytes_cmp k r.key)) refl h (found_void rows k)
  where
    go : (b : Bool) → is_eq (bytes_cmp k r.key) ≡ b → is_some (if b then Some r else void_with rows k) ≡ true → (is_some (void_with rows k) ≡ true → (row : VoidRow) × Contains rows row × (row.key ≡ k)) → (row : VoidRow) × Contains (r ∷ rows) row × (row.key ≡ k)
    go true e h ih = (r, Contains-here r rows, sym (tells_apart exact_bytes k r.key e))
    go false e h ih = let f = ih h in (f.0, Contains-later r rows f.0 f.1, f.2)

void_found : (rows : List VoidRow) (row : VoidRow) → Contains rows row → is_some (void_with rows row.key) ≡ true
unfolding row_at
void_found [] row i = absurd (Contains-none row i)
void_found (r ∷ rows) row i = go (is_eq (bytes_cmp row.key r.key)) refl (Contains-cases r rows row i) (void_found rows row)
  where
    go : (b : Bool) → is_eq (bytes_cmp row.key r.key) ≡ b → (r ≡ row) ⊎ Contains rows row → (Contains rows row → is_some (void_with rows row.key) ≡ true) → is_some (if b then Some r else void_with rows row.key) ≡ true
    go true e h ih = refl
    go false e (inl same) ih = absurd (false≢true (sym e ∙ ap (λ (v : VoidRow). is_eq (bytes_cmp row.key v.key)) same ∙ ap is_eq (tied_itself nat_list_cmp_total row.key)))
    go false e (inr i) ih = ih i

pub no_member : {X : Type 0} (xs : List X) → ((x : X) → Contains xs x → ⊥) → xs ≡ []
no_member [] none = refl
no_member (x ∷ xs) none = absurd (none x (Contains-here x xs))

of_or_nulls : (xs : List Row) (v : Row) → Contains (or_nulls xs) v → (xs ≡ []) ⊎ Contains xs v
of_or_nulls [] v i = inl refl
of_or_nulls (x ∷ xs) v i = inr i

module _ (o : Bytes) (rows : List VoidRow) (table : List Row) (has : AreRowsOfOwner o (void_cells o) rows table) (k : Bytes) where
  -- whether the row is a void of this key
  abbrev is_void : Row → Bool
  is_void r = equals (column r 1) (Text o) && (equals (column r 2) (Text k) && true)

  void_is : (r : Row) → is_void r ≡ true → (column r 1 ≡ Text o) × (column r 2 ≡ Text k)
  void_is r h =
      let parts = and_parts _ _ h in
      (equals_text_only (column r 1) o parts.0, equals_text_only (column r 2) k (and_parts _ _ parts.1).0)

  pub unvoided_is_standing : (v : Row) → Contains (or_nulls (filter is_void table)) v → is_no_value (column v 2) ≡ true → is_some (void_with rows k) ≡ false
  unvoided_is_standing v i h = elim (of_or_nulls (filter is_void table) v i) [
    | inl none ↦ unvoided none
    | inr found ↦ absurd (false≢true (sym (text_is_value k) ∙ ap is_no_value (sym (void_is v (Contains-from_filter is_void table v found).1).1) ∙ h))
  ]
    where
      unvoided : filter is_void table ≡ [] → is_some (void_with rows k) ≡ false
      unvoided none = go (is_some (void_with rows k)) refl
        where
          go : (b : Bool) → is_some (void_with rows k) ≡ b → b ≡ false
          go false e = refl
          go true e =
              let f = found_void rows k e in
              let r = has.every f.0 f.1 in
              let passes = and_from _ _ (text_itself o) (and_from _ true (subst (λ key. equals (Text key) (Text k) ≡ true) (sym f.2) (text_itself k)) refl) in
              absurd (Contains-none (r.0 ∷ void_cells o f.0) (subst (λ xs. Contains xs (r.0 ∷ void_cells o f.0)) none (Contains-filter is_void table (r.0 ∷ void_cells o f.0) r.1 passes)))

  pub missing : is_some (void_with rows k) ≡ false → Contains (or_nulls (filter is_void table)) []
  missing h = subst (λ xs. Contains (or_nulls xs) []) (sym none) (Contains-here [] [])
    where
      none : filter is_void table ≡ []
      none = no_member (filter is_void table) (λ v i.
          let f = Contains-from_filter is_void table v i in
          let is = void_is v f.1 in
          let at = has.only v f.0 is.0 in
          let key : at.1.key ≡ k = texts_same at.1.key k (subst (λ v. equals v (Text k) ≡ true) (sym is.1 ∙ ap (λ (r : Row). column r 2) at.3) (text_itself k)) in
          false≢true (sym h ∙ ap (λ key. is_some (void_with rows key)) (sym key) ∙ void_found rows at.1 at.2))
