-- What is held of a content, and what a stop leaves of an open store.
use Rattle.std.specs.Prelude.{◌≡◌, true, IsTrue, List, [], ◌∷◌, map}
use Rattle.std.proofs.Common.{inl, arith, ap, refl, sym, subst, ◌∙◌}
use Rattle.std.proofs.Math.Bool.{Bool-set}
use Rattle.toll_sql.specs.Common.{Bytes, Database, State, Trees, Content}
use Rattle.toll_keep.specs.HeldFor.{AgreeFor}
use Rattle.toll_sql.specs.HeldFor.{HaveSameRows}
use Rattle.toll_sql.specs.Holds.{HasRows, Holds, HoldsAll, HoldsFor, HoldsSlice, NameOwners}
use Rattle.toll_sql.specs.Kinds.{owner_kind, rows_for, unit_kind}
use Rattle.toll_sql.specs.declared.table_kind.TableKind.TheVariants.{Meta, Owners, Units}
use Rattle.toll_sql.specs.Stores.{HoldsBy, LeavesBy, LiesOpen}

-- If a stop leaves what is committed, it leaves the content that is held.
pub leaves_one : {Rows : Trees → Content → Type 0} (s : State) (c : Content) → ((db : Trees) → s.may_leave db → db ≡ s.committed.trees) → HoldsBy Rows s c → LeavesBy Rows s (c ∷ [])
leaves_one {Rows} s c only h db may = inl (subst (λ t. Rows t c) (ap (λ (d : Database). d.trees) h.idle ∙ sym (only db may)) h.rows)

-- That a store is open is a mere fact.
pub open_once : {s : State} (a b : LiesOpen s) → a ≡ b
open_once {s} a b = ap (λ (t : IsTrue s.is_open). let open_so : LiesOpen s = record { is_open = t } in open_so) (Bool-set s.is_open true a.is_open b.is_open)

-- ---- rows of some owners

-- What is held is held for any owners.
pub narrowed : (os : List Bytes) (db : Trees) (c : Content) → Holds db c → HoldsFor os db c
narrowed os db c h = record { meta = h.meta; owners = h.owners; units = h.units; slices = λ o own. h.each.slices o }

pub narrowed_in_store : (os : List Bytes) (s : State) (c : Content) → HoldsBy Holds s c → HoldsBy (HoldsFor os) s c
narrowed_in_store os s c h = record { ours = h.ours; idle = h.idle; rows = narrowed os s.now.trees c h.rows }

-- What is held for any owners is held, if each row names an owner.
pub joined : (db : Trees) (c : Content) → ((os : List Bytes) → HoldsFor os db c) → NameOwners db → Holds db c
joined db c h named = record {
  meta = (h []).meta;
  owners = (h []).owners;
  units = (h []).units;
  each = record { slices = λ o. (h (o ∷ [])).slices o (0, omega arith, refl); owned = named };
}

-- The rows of the owners alone decide what is held for them, of the content as of the tables.
pub held_of_own_content : (os : List Bytes) (db : Trees) (c d : Content) → AgreeFor os c d → HoldsFor os db c → HoldsFor os db d
held_of_own_content os db c d same h = record {
  meta = h.meta;
  owners = subst (HoldsAll owner_kind db) same.owners h.owners;
  units = subst (HoldsAll unit_kind db) same.units h.units;
  slices = λ o own. subst (HoldsSlice db o) (same.rows o own) (h.slices o own);
}

pub held_of_own_rows : (os : List Bytes) (db other : Trees) (c : Content) → HaveSameRows os db other → HoldsFor os db c → HoldsFor os other c
held_of_own_rows os db other c same h = record {
  meta = subst (HasRows Meta _) (same.plant Meta refl) h.meta;
  owners = record { stored = subst (HasRows Owners (map owner_kind.cells c.owners)) (same.plant Owners refl) h.owners.stored; valid = h.owners.valid };
  units = record { stored = subst (HasRows Units (map unit_kind.cells c.units)) (same.plant Units refl) h.units.stored; valid = h.units.valid };
  slices = λ o own.
      let s = h.slices o own in
      record { named = s.named; stored = λ k owned. subst (HasRows k (rows_for k (c.rows o))) (same.owned k owned o own) (s.stored k owned); valid = s.valid };
}
