-- The effect of changes on a content that the tables hold.
use Rattle.std.proofs.Common.{◌≡◌, ◌≢◌, ◌⊎◌, inl, inr, ◌+◌, ◌≤◌, Bool, true, false, List, [], ◌∷◌, Contains, map, length, refl, sym, ap, subst, ◌∙◌, arith}
use Rattle.toll_sql.proofs.Common.{Contains-here, cases_Bool, false≢true, nat_list_cmp_total, AllByRecursion, is_eq, and_parts, IsPermutation-map, Row, column, value_cmp, Trees, Text, all-permutation, Bytes, bytes_cmp, same_bytes, Slice, with_row, Change, Owner, Unit as UnitAdded, Put, OwnerRow, UnitRow, is_eq-then, same_bytes-exact, same_bytes-refl, Content, content_after, place, all_cells, owned_by, cells_of, fill, key_order, meta_cells, owner_cells, unit_cells, HasRows, Holds, HoldsAll, HoldsEach, HoldsFor, HoldsSlice, NameOwners, NamesOwner, version, ReplacesOrAdds, IsRowAdded, PutsAll, PutsChange, PutsRow, has_row_key, tree_of, key_columns, table_of, width_of, is_owned, PlantKind, owner_kind, unit_kind, table_for, cells_for, rows_for, IsRow, TableKind, Meta, Owners, Units}
use Rattle.std.specs.Prelude.{if◌then◌else◌}
use Rattle.toll_base.specs.declared.rows.Row.{Row as OfficeRow}
use Rattle.toll_base.specs.declared.rows.Row.TheVariants as of
use Rattle.toll_keep.specs.HeldFor.{PutsOutside}
use Rattle.toll_sql.specs.Laws.{narrowed}
use Rattle.toll_base.proofs.SliceFits.{owner-with_row}
use Rattle.toll_sql.proofs.Bags.{placed_in}
use Rattle.toll_sql.proofs.CellLemmas.{fit_length}
use Rattle.toll_sql.proofs.ChangeLemmas.{fills}
use Rattle.toll_sql.proofs.Keyed.{column_behind_rowid, cells_are, has_key_is}
use Rattle.toll_sql.proofs.Orders.{key_order_total, owners_order, units_order}
use Rattle.toll_sql.proofs.Parts.{owns_row, own_part, other_part}
use Rattle.toll_sql.proofs.Placing.{place_rises, put_placed}
use Rattle.toll_sql.proofs.PutCommon.{compares_text_only, texts_equal}
use Rattle.toll_sql.proofs.PutTexts.{table_number, same_table, columns_are}
use Rattle.toll_sql.proofs.Rowwise.{all_put, owner_first, row_placed, other_table_untouched, valid_with}
use Rattle.toll_sql.proofs.WriteLemmas.{at_table}

-- ---- tables and their trees

keys_fit : (k : TableKind) → length (key_columns k) ≤ width_of k
keys_fit Meta = omega arith
keys_fit _ = omega arith

tree_number : (k : TableKind) → tree_of k ≡ table_number k + table_number k
tree_number Meta = refl
tree_number _ = refl

pub trees_apart : (j k : TableKind) → (table_number j ≡ table_number k → ⊥) → tree_of j ≢ tree_of k
trees_apart j k other same = other (omega (arith, tree_number j, tree_number k, same))

first_equal : (k : TableKind) (a b : Row) → is_eq (key_order k a b) ≡ true → is_eq (value_cmp (column a 0) (column b 0)) ≡ true
first_equal Meta a b h = (and_parts _ _ (sym (is_eq-then (value_cmp (column a 0) (column b 0)) _) ∙ h)).0
first_equal _ a b h = (and_parts _ _ (sym (is_eq-then (value_cmp (column a 0) (column b 0)) _) ∙ h)).0

-- ---- the table of the row, and the others

abbrev IsPut : (k : TableKind) (cells : Row) (old new : List Row) → Type 0
IsPut k cells old new = ReplacesOrAdds (has_row_key k cells) cells old new ⊎ IsRowAdded (has_row_key k cells) cells old new

module _ (k : TableKind) (cells : Row) (fits : fill k cells ≡ true) where
  after_key_is : (row : Row) → has_row_key k cells row ≡ is_eq (key_order k (cells_of row) cells)
  after_key_is = has_key_is k cells (omega (arith, keys_fit k, fit_length (table_of k).columns cells fits, columns_are k)) (cells_are (table_of k).columns cells fits)

  pub rows_held_after : (rows old new : List Row) → HasRows k rows old → IsPut k cells old new → HasRows k (place (key_order k) cells rows) new
  rows_held_after rows old new h put = record {
    same = placed_in (key_order k) (key_order_total k) cells (has_row_key k cells) after_key_is rows old new h.rising h.same put;
    rising = place_rises (key_order k) (key_order_total k) cells rows h.rising;
  }

  -- The row with the key is of the same owner.
  same_owner : (o : Bytes) → column cells 0 ≡ Text o → (row : Row) → has_row_key k cells row ≡ true → column row 1 ≡ Text o
  same_owner o first row has =
      let equal = first_equal k (cells_of row) cells (sym (after_key_is row) ∙ has) in
      column_behind_rowid row 0 ∙ compares_text_only (column (cells_of row) 0) o (subst (λ v. is_eq (value_cmp (column (cells_of row) 0) v) ≡ true) first equal)

  owned_after : (old new : List Row) → NamesOwner cells → IsPut k cells old new → AllByRecursion NamesOwner (all_cells old) → AllByRecursion NamesOwner (all_cells new)
  owned_after old new named (inl h) all =
      let rest = all-permutation NamesOwner (all_cells old) (all_cells (h.0 ∷ h.1)) (IsPermutation-map cells_of old (h.0 ∷ h.1) h.3) all in
      all-permutation NamesOwner (cells ∷ all_cells h.1) (all_cells new) h.4 (named, rest.1)
  owned_after old new named (inr h) all = all-permutation NamesOwner (cells ∷ all_cells old) (all_cells new) h.1 (named, all)

pub other_tree : (j k : TableKind) (cells : Row) (old new : Trees) → (table_number j ≡ table_number k → ⊥) → PutsRow k cells old new → new (tree_of j) ≡ old (tree_of j)
other_tree j k cells old new other put = at_table (λ tree. tree ≢ tree_of k → new tree ≡ old tree) j put.others (trees_apart j k other)

-- ---- an owner's rows

module _ (o q : Bytes) (row : OfficeRow) (s : Slice) (old new : Trees) (put : PutsRow (table_for row) (cells_for o row) old new) where
  abbrev k : TableKind
  k = table_for row

  cells_fit : fill k (cells_for o row) ≡ true
  cells_fit = fills (Put o row)

  after_its : (row' : Row) → has_row_key k (cells_for o row) row' ≡ true → column row' 1 ≡ Text o
  after_its = same_owner k (cells_for o row) cells_fit o (owner_first o row)

  own_rows_after : HoldsSlice old q s → o ≡ q → (j : TableKind) → is_owned j ≡ true → HasRows j (rows_for j (with_row s row)) (owned_by q (new (tree_of j)))
  own_rows_after h at j owned = elim (same_table j k) [
    | inl same ↦ subst (λ j. HasRows j (rows_for j (with_row s row)) (owned_by q (new (tree_of j)))) (sym same) (
        let own_o : s.owner ≡ o = h.named ∙ sym at in
        let has = h.stored k (subst (λ j. is_owned j ≡ true) same owned) in
        let mine : owns_row q (cells_for o row) ≡ true = ap (λ v. is_eq (value_cmp v (Text q))) (owner_first o row) ∙ texts_equal o q ∙ ap (λ p. same_bytes p q) at ∙ same_bytes-refl q in
        let here = own_part q (has_row_key k (cells_for o row)) (cells_for o row) (old (tree_of k)) (new (tree_of k)) mine
        (λ row' has. ap (λ v. is_eq (value_cmp v (Text q))) (after_its row' has) ∙ texts_equal o q ∙ ap (λ p. same_bytes p q) at ∙ same_bytes-refl q) put.here in
        let made = rows_held_after k (cells_for o row) cells_fit (rows_for k s) (owned_by q (old (tree_of k))) (owned_by q (new (tree_of k))) has here in
        subst (λ rows. HasRows k rows (owned_by q (new (tree_of k)))) (sym (row_placed s row has.rising ∙ ap (λ p. place (key_order k) (cells_for p row) (rows_for k s)) own_o)) made
        )
    | inr other ↦ subst (λ rows. HasRows j rows (owned_by q (new (tree_of j)))) (sym (other_table_untouched j s row other))
        (subst (λ tree. HasRows j (rows_for j s) (owned_by q tree)) (sym (other_tree j k (cells_for o row) old new other put)) (h.stored j owned))
  ]

  others_rows : HoldsSlice old q s → same_bytes o q ≡ false → (j : TableKind) → is_owned j ≡ true → HasRows j (rows_for j s) (owned_by q (new (tree_of j)))
  others_rows h differ j owned = elim (same_table j k) [
    | inl same ↦ subst (λ j. HasRows j (rows_for j s) (owned_by q (new (tree_of j)))) (sym same) (
        let has = h.stored k (subst (λ j. is_owned j ≡ true) same owned) in
        let mine : owns_row q (cells_for o row) ≡ false = ap (λ v. is_eq (value_cmp v (Text q))) (owner_first o row) ∙ texts_equal o q ∙ differ in
        let here = other_part q (has_row_key k (cells_for o row)) (cells_for o row) (old (tree_of k)) (new (tree_of k)) mine (λ row' has. ap (λ v. is_eq (value_cmp v (Text q))) (after_its row' has) ∙ texts_equal o q ∙ differ) put.here in
        record { same = λ f. has.same f ∙ here f; rising = has.rising }
        )
    | inr other ↦ subst (λ tree. HasRows j (rows_for j s) (owned_by q tree)) (sym (other_tree j k (cells_for o row) old new other put)) (h.stored j owned)
  ]

  slice_after : IsRow row → HoldsSlice old q s → (b : Bool) → same_bytes o q ≡ b → HoldsSlice new q (if b then with_row s row else s)
  slice_after valid h true e = record {
    named = owner-with_row s row ∙ h.named;
    stored = own_rows_after h (same_bytes-exact o q e);
    valid = λ j owned. valid_with j s row valid (h.valid j owned);
  }
  slice_after valid h false e = record { named = h.named; stored = others_rows h e; valid = h.valid }

-- ---- the whole content

is_owned_for : (row : OfficeRow) → is_owned (table_for row) ≡ true
is_owned_for (of.Material x) = refl
is_owned_for _ = refl

-- A table that isn't divided by owner isn't the row's.
pub unowned_apart : (j k : TableKind) → is_owned j ≡ false → is_owned k ≡ true → table_number j ≡ table_number k → ⊥
unowned_apart j k free owned same = elim (same_table j k) [
  | inl is ↦ false≢true (sym free ∙ ap is_owned is ∙ owned)
  | inr other ↦ other same
]

-- An unchanged table has the rows that it had.
pub same_all : {X : Type 0} (kind : PlantKind X) (old new : Trees) (l : List X) → new (tree_of kind.table) ≡ old (tree_of kind.table) → HoldsAll kind old l → HoldsAll kind new l
same_all kind old new l same h = record { stored = subst (HasRows kind.table (map kind.cells l)) (sym same) h.stored; valid = h.valid }

-- A slice whose owner's tables are unchanged.
same_slice : (old new : Trees) (q : Bytes) (s : Slice) → ((j : TableKind) → is_owned j ≡ true → new (tree_of j) ≡ old (tree_of j)) → HoldsSlice old q s → HoldsSlice new q s
same_slice old new q s same h = record { named = h.named; stored = λ j owned. subst (λ tree. HasRows j (rows_for j s) (owned_by q tree)) (sym (same j owned)) (h.stored j owned); valid = h.valid }

-- The same for the slices of all owners.
pub same_each : (old new : Trees) (rows : Bytes → Slice) → ((j : TableKind) → is_owned j ≡ true → new (tree_of j) ≡ old (tree_of j)) → HoldsEach is_owned old rows → HoldsEach is_owned new rows
same_each old new rows same h = record {
  slices = λ o. same_slice old new o (rows o) same (h.slices o);
  owned = λ j owned. subst (λ tree. AllByRecursion NamesOwner (all_cells tree)) (sym (same j owned)) (h.owned j owned);
}

-- The tables that are divided by owner still name one in each row.
named_one : (change : Change) (old new : Trees) → PutsChange change old new → NameOwners old → NameOwners new
named_one (Owner x) old new p all j owned =
    subst (λ tree. AllByRecursion NamesOwner (all_cells tree)) (sym (other_tree j Owners (owner_cells x) old new (λ same. unowned_apart Owners j refl owned (sym same)) p.put)) (all j owned)
named_one (UnitAdded x) old new p all j owned = subst (λ tree. AllByRecursion NamesOwner (all_cells tree)) (sym (other_tree j Units (unit_cells x) old new (λ same. unowned_apart Units j refl owned (sym same)) p.put)) (all j owned)
named_one (Put o row) old new p all j owned =
    let k = table_for row in
    elim (same_table j k) [
      | inl same ↦ subst (λ j. AllByRecursion NamesOwner (all_cells (new (tree_of j)))) (sym same)
          (owned_after k (cells_for o row) (fills (Put o row)) (old (tree_of k)) (new (tree_of k)) (o, p.valid.0, owner_first o row) p.put.here (all k (is_owned_for row)))
      | inr differ ↦ subst (λ tree. AllByRecursion NamesOwner (all_cells tree)) (sym (other_tree j k (cells_for o row) old new differ p.put)) (all j owned)
    ]

-- A row of an owner leaves the tables that aren't divided by owner.
module _ (os : List Bytes) (o : Bytes) (row : OfficeRow) (c : Content) (old new : Trees) (h : HoldsFor os old c) (p : PutsChange (Put o row) old new) where
  plant_stays : (j : TableKind) → is_owned j ≡ false → new (tree_of j) ≡ old (tree_of j)
  plant_stays j free = other_tree j (table_for row) (cells_for o row) old new (unowned_apart j (table_for row) free (is_owned_for row)) p.put

  held_with : (rows : Bytes → Slice) → ((q : Bytes) → Contains os q → HoldsSlice new q (rows q)) → HoldsFor os new (record { owners = c.owners; units = c.units; rows = rows })
  held_with rows slices = record {
    meta = subst (λ tree. HasRows Meta (meta_cells version ∷ []) tree) (sym (plant_stays Meta refl)) h.meta;
    owners = same_all owner_kind old new c.owners (plant_stays Owners refl) h.owners;
    units = same_all unit_kind old new c.units (plant_stays Units refl) h.units;
    slices = slices;
  }

  held_put : HoldsFor os new (content_after (Put o row ∷ []) c)
  held_put = held_with _ (λ q own.
      let s = c.rows q in
      let was = h.slices q own in
      subst (λ p. HoldsSlice new q (if same_bytes o p then with_row s row else s)) (sym was.named) (slice_after o q row s old new p.put p.valid.1 was (same_bytes o q) refl))

  -- A row of another owner leaves what is held.
  held_outside : ¬ (Contains os o) → HoldsFor os new c
  held_outside outside = held_with c.rows (λ q own. slice_after o q row (c.rows q) old new p.put p.valid.1 (h.slices q own) false (elim (cases_Bool (same_bytes o q)) [
    | inl same ↦ absurd (outside (subst (Contains os) (sym (same_bytes-exact o q same)) own))
    | inr other ↦ other
  ]))

held_one : (os : List Bytes) (change : Change) (c : Content) (old new : Trees) → HoldsFor os old c → PutsChange change old new → HoldsFor os new (content_after (change ∷ []) c)
held_one os (Owner x) c old new h p =
    let other = λ (j : TableKind) (differ : table_number j ≡ table_number Owners → ⊥). other_tree j Owners (owner_cells x) old new differ p.put in
    record {
      meta = subst (λ tree. HasRows Meta (meta_cells version ∷ []) tree) (sym (other Meta (λ e. absurd (omega (arith, e))))) h.meta;
      owners = record {
        stored =
            subst (λ rows. HasRows Owners rows (new (tree_of Owners))) (sym (put_placed bytes_cmp nat_list_cmp_total (λ (row : OwnerRow). row.owner) owner_cells (key_order Owners) owners_order x c.owners h.owners.stored.rising))
            (rows_held_after Owners (owner_cells x) (fills (Owner x)) (map owner_cells c.owners) (old (tree_of Owners)) (new (tree_of Owners)) h.owners.stored p.put.here);
        valid = all_put (λ (row : OwnerRow). row.owner) _ x p.valid bytes_cmp c.owners h.owners.valid;
      };
      units = same_all unit_kind old new c.units (other Units (λ e. absurd (omega (arith, e)))) h.units;
      slices = λ o own. same_slice old new o (c.rows o) (λ j owned. other j (λ same. unowned_apart Owners j refl owned (sym same))) (h.slices o own);
    }
held_one os (UnitAdded x) c old new h p =
    let other = λ (j : TableKind) (differ : table_number j ≡ table_number Units → ⊥). other_tree j Units (unit_cells x) old new differ p.put in
    record {
      meta = subst (λ tree. HasRows Meta (meta_cells version ∷ []) tree) (sym (other Meta (λ e. absurd (omega (arith, e))))) h.meta;
      owners = same_all owner_kind old new c.owners (other Owners (λ e. absurd (omega (arith, e)))) h.owners;
      units = record {
        stored =
            subst (λ rows. HasRows Units rows (new (tree_of Units))) (sym (put_placed bytes_cmp nat_list_cmp_total (λ (row : UnitRow). row.unit) unit_cells (key_order Units) units_order x c.units h.units.stored.rising))
            (rows_held_after Units (unit_cells x) (fills (UnitAdded x)) (map unit_cells c.units) (old (tree_of Units)) (new (tree_of Units)) h.units.stored p.put.here);
        valid = all_put (λ (row : UnitRow). row.unit) _ x p.valid bytes_cmp c.units h.units.valid;
      };
      slices = λ o own. same_slice old new o (c.rows o) (λ j owned. other j (λ same. unowned_apart Units j refl owned (sym same))) (h.slices o own);
    }
held_one os (Put o row) c old new h p = held_put os o row c old new h p

holds_one : (change : Change) (c : Content) (old new : Trees) → Holds old c → PutsChange change old new → Holds new (content_after (change ∷ []) c)
holds_one change c old new h p =
    let plant = held_one [] change c old new (narrowed [] old c h) p in
    record {
      meta = plant.meta;
      owners = plant.owners;
      units = plant.units;
      each = record {
        slices = λ o. (held_one (o ∷ []) change c old new (narrowed (o ∷ []) old c h) p).slices o (Contains-here o []);
        owned = named_one change old new p h.each.owned;
      };
    }

pub holds_all : (changes : List Change) (c : Content) (old new : Trees) → Holds old c → PutsAll changes old new → Holds new (content_after changes c)
holds_all [] c old new h p = subst (λ db. Holds db c) (sym p) h
holds_all (Owner x ∷ more) c old new h p = holds_all more (content_after (Owner x ∷ []) c) p.0 new (holds_one (Owner x) c old p.0 h p.1) p.2
holds_all (UnitAdded x ∷ more) c old new h p = holds_all more (content_after (UnitAdded x ∷ []) c) p.0 new (holds_one (UnitAdded x) c old p.0 h p.1) p.2
holds_all (Put o row ∷ more) c old new h p = holds_all more (content_after (Put o row ∷ []) c) p.0 new (holds_one (Put o row) c old p.0 h p.1) p.2

-- The same for some owners, whatever rows the tables have of others.
pub held_all : (os : List Bytes) (changes : List Change) (c : Content) (old new : Trees) → HoldsFor os old c → PutsAll changes old new → HoldsFor os new (content_after changes c)
held_all os [] c old new h p = subst (λ db. HoldsFor os db c) (sym p) h
held_all os (Owner x ∷ more) c old new h p = held_all os more (content_after (Owner x ∷ []) c) p.0 new (held_one os (Owner x) c old p.0 h p.1) p.2
held_all os (UnitAdded x ∷ more) c old new h p = held_all os more (content_after (UnitAdded x ∷ []) c) p.0 new (held_one os (UnitAdded x) c old p.0 h p.1) p.2
held_all os (Put o row ∷ more) c old new h p = held_all os more (content_after (Put o row ∷ []) c) p.0 new (held_one os (Put o row) c old p.0 h p.1) p.2

-- Changes of others leave what is held for these.
pub held_still : (os : List Bytes) (changes : List Change) → PutsOutside os changes → (c : Content) (old new : Trees) → HoldsFor os old c → PutsAll changes old new → HoldsFor os new c
held_still os [] outside c old new h p = subst (λ db. HoldsFor os db c) (sym p) h
held_still os (Owner x ∷ more) outside c old new h p = absurd outside
held_still os (UnitAdded x ∷ more) outside c old new h p = absurd outside
held_still os (Put o row ∷ more) outside c old new h p = held_still os more outside.1 c p.0 new (held_outside os o row c old p.0 h p.1 outside.0) p.2
