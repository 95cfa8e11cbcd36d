-- The content of the tables once the version is there.
use Rattle.std.proofs.Common.{◌≡◌, true, List, [], ◌∷◌, refl, sym, subst, ◌∙◌, arith}
use Rattle.toll_sql.proofs.Common.{AllByRecursion, Row, State, Table, Trees, IsShaped, Bytes, empty_slice, Content, empty_content, all_cells, owned_by, place, key_order, WritesVersion, IsNewDatabase, IsShapedAs, MakesAllTables, meta_cells, owner_kind, unit_kind, rows_for, as_second, HasRows, Holds, HoldsSlice, NamesOwner, version, made_all, tree_of, is_owned, AreValidIn, TableKind, Meta, Owners, Units}
use Rattle.sqlite_trees.specs.declared.store.Shape.TheVariants as shape
use Rattle.toll_sql.proofs.HoldsAfter.{other_tree, rows_held_after, same_all, same_each, unowned_apart}
use Rattle.toll_sql.proofs.PutTexts.{table_number}
use Rattle.toll_sql.proofs.WriteLemmas.{at_table}

-- ---- tables that differ in the version alone

abbrev pub IsNotMeta : TableKind → Type 0
IsNotMeta k = table_number k ≡ table_number Meta → ⊥

holds_same : (c : Content) (old new : Trees) → ((k : TableKind) → IsNotMeta k → new (tree_of k) ≡ old (tree_of k)) → HasRows Meta (meta_cells version ∷ []) (new (tree_of Meta)) → Holds old c → Holds new c
holds_same c old new same meta h =
    let tables = λ (k : TableKind) (owned : is_owned k ≡ true). same k (λ e. unowned_apart Meta k refl owned (sym e)) in
    record {
      meta = meta;
      owners = same_all owner_kind old new c.owners (same Owners (λ e. absurd (omega (arith, e)))) h.owners;
      units = same_all unit_kind old new c.units (same Units (λ e. absurd (omega (arith, e)))) h.units;
      each = same_each old new c.rows tables h.each;
    }

pub written_holds : (c : Content) (db : Trees) (rows : List Row) (old new : State) → WritesVersion old new → HasRows Meta rows (old.now.trees (tree_of Meta)) → place (key_order Meta) (meta_cells version) rows ≡ meta_cells version ∷ []
    → ((k : TableKind) → IsNotMeta k → old.now.trees (tree_of k) ≡ db (tree_of k)) → Holds db c → Holds new.now.trees c
written_holds c db rows old new h has placed same holds =
    let meta = subst (λ r. HasRows Meta r (new.now.trees (tree_of Meta))) placed (rows_held_after Meta (meta_cells version) refl rows (old.now.trees (tree_of Meta)) (new.now.trees (tree_of Meta)) has h.put.here) in
    holds_same c db new.now.trees (λ k other. other_tree k Meta (meta_cells version) old.now.trees new.now.trees other h.put ∙ same k other) meta holds

-- ---- no rows

abbrev empty_trees : Trees
empty_trees = λ _. []

none_for : (k : TableKind) (o : Bytes) → rows_for k (empty_slice o) ≡ []
none_for Meta o = refl
none_for _ o = refl

none_valid : (k : TableKind) (o : Bytes) → AreValidIn k (empty_slice o)
none_valid Meta o = tt
none_valid _ o = tt

fresh_no_rows_there : (k : TableKind) → IsNotMeta k → [] ≡ as_second empty_trees (tree_of k)
fresh_no_rows_there Meta other = absurd (other refl)
fresh_no_rows_there _ other = refl

other_is : (k : TableKind) → is_owned k ≡ true → IsNotMeta k
other_is k owned = λ same. unowned_apart Meta k refl owned (sym same)

empty_slice_held : (o : Bytes) → HoldsSlice (as_second empty_trees) o (empty_slice o)
empty_slice_held o = record {
  named = refl;
  stored = λ k owned. subst (λ rows. HasRows k rows (owned_by o (as_second empty_trees (tree_of k)))) (sym (none_for k o))
      (subst (λ tree. HasRows k [] (owned_by o tree)) (fresh_no_rows_there k (other_is k owned)) (record { same = λ f. refl; rising = tt }));
  valid = λ k owned. none_valid k o;
}

holds_nothing : Holds (as_second empty_trees) empty_content
holds_nothing = record {
  meta = record { same = λ f. refl; rising = (tt, tt) };
  owners = record { stored = record { same = λ f. refl; rising = tt }; valid = tt };
  units = record { stored = record { same = λ f. refl; rising = tt }; valid = tt };
  each = record { slices = empty_slice_held; owned = λ k owned. subst (λ tree. AllByRecursion NamesOwner (all_cells tree)) (fresh_no_rows_there k (other_is k owned)) tt };
}

pub made_new : (old mid new : State) → MakesAllTables old mid → WritesVersion mid new → IsNewDatabase new.now
made_new old mid new h f =
    let empty = λ (k : TableKind). at_table (λ tree. mid.now.trees tree ≡ []) k h.empty in
    record {
      ours = f.ours;
      alone = f.alone;
      rows = written_holds empty_content (as_second empty_trees) [] mid new f (subst (λ stored. HasRows Meta [] stored) (sym (empty Meta)) (record { same = λ g. refl; rising = tt })) refl (λ k other. empty k ∙ fresh_no_rows_there k other) holds_nothing;
    }

none_shaped : (ts : List Table) (db : Trees) → AllByRecursion (λ t. db t.tree ≡ []) ts → AllByRecursion (λ t. IsShaped shape.Table (db t.tree)) ts
none_shaped [] db none = tt
none_shaped (t ∷ ts) db none = (subst (IsShaped shape.Table) (sym none.0) (tt, tt), none_shaped ts db none.1)

pub shaped_new : (old new : State) → MakesAllTables old new → IsShapedAs made_all new
shaped_new old new h = record { making = h.making; shaped = none_shaped made_all.tables new.now.trees h.empty }
