-- The tables of version 1, raised.
use Rattle.std.proofs.Common.{◌≡◌, Ordering, Less, Equal, Greater, [], ◌∷◌, ap, refl, sym, subst}
use Rattle.toll_sql.proofs.Common.{match_ordering, ordering_reverse, State, IsShaped, place, key_order, IsShapedAs, MakesTable, WritesVersion, meta_cells, Raised, as_second, first_ours, first_version, HasRows, version, made_all, tree_of, TableKind, Meta, Voids}
use Rattle.sqlite_catalog.specs.Change.{next_tree}
use Rattle.sqlite_trees.specs.declared.store.Shape.TheVariants as shape
use Rattle.toll_sql.proofs.CreateTexts.{unplaced}
use Rattle.toll_sql.proofs.Fresh.{IsNotMeta, written_holds}
use Rattle.toll_sql.proofs.MakeLemmas.{shaped_still}
use Rattle.toll_sql.proofs.MetaLemmas.{put_told}
use Rattle.toll_sql.proofs.Orders.{key_order_total}
use Rattle.toll_sql.proofs.SoFar.{all_append}

pub raised_shaped : (old new : State) → IsShapedAs first_ours old → MakesTable Voids old new → IsShapedAs made_all new
raised_shaped old new before h = record {
  making = h.making;
  shaped = all_append (λ t. IsShaped shape.Table (new.now.trees t.tree)) first_ours.tables (record (unplaced Voids) { tree = next_tree first_ours } ∷ []) (shaped_still first_ours.tables old.now.trees new.now.trees h.others before.shaped)
      (subst (IsShaped shape.Table) (sym h.empty) (tt, tt), tt);
}

-- The tables are as version 2 has them, except for the version.
module _ (old new : State) (h : MakesTable Voids old new) where
  as_were : (k : TableKind) → IsNotMeta k → new.now.trees (tree_of k) ≡ as_second old.now.trees (tree_of k)
  as_were Meta other = absurd (other refl)
  as_were _ other = assumption h

  meta_was : new.now.trees (tree_of Meta) ≡ old.now.trees (tree_of Meta)
  meta_was = h.others.0

equal_if_reversed : (r : Ordering) → r ≡ ordering_reverse r → r ≡ Equal
equal_if_reversed Less h = absurd cc
equal_if_reversed Equal h = refl
equal_if_reversed Greater h = absurd cc

-- The new version replaces the old one.
in_place : place (key_order Meta) (meta_cells version) (meta_cells first_version ∷ []) ≡ meta_cells version ∷ []
in_place =
    let same : key_order Meta (meta_cells first_version) (meta_cells version) ≡ Equal = equal_if_reversed _ ((key_order_total Meta).antisymm (meta_cells version) (meta_cells version)) in
    ap (λ r. match_ordering r (meta_cells first_version ∷ meta_cells version ∷ []) (meta_cells version ∷ []) (meta_cells version ∷ meta_cells first_version ∷ [])) same

pub raised : (old mid new : State) → MakesTable Voids old mid → WritesVersion mid new → Raised old.now new.now
raised old mid new h f = record {
  ours = f.ours;
  alone = f.alone;
  reported = put_told version mid.now.trees new.now.trees f.put;
  rows = λ c held. written_holds c (as_second old.now.trees) (meta_cells first_version ∷ []) mid new f (subst (λ stored. HasRows Meta (meta_cells first_version ∷ []) stored) (sym (meta_was old mid h)) held.meta) in_place (as_were old mid h) held.others;
}
