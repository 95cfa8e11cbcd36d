-- All rows of the office, and the effect of changes on them.
use Rattle.std.specs.Prelude.{◌≡◌, Bool, true, ◌||◌, if◌then◌else◌, Option, Some, None, is_some, List, [], ◌∷◌}
use Rattle.toll_keep.specs.Common.{Bytes, bytes_cmp, same_bytes, row_at, put_row, Slice, empty_slice, with_row, KeepsRules, after_changes, OwnerRow, UnitRow, Change, Owner, Unit as UnitAdded, Put}
use Rattle.toll_base.specs.Values.{house_name}

-- the owners besides HOUSE, the units, and the rows of each owner
pub record Content : Type 0 where
  pub owners : List OwnerRow
  pub units : List UnitRow
  pub rows : Bytes → Slice

-- whether the owner is HOUSE or one of the owners
abbrev pub knows : Content → Bytes → Bool
knows c o = same_bytes o house_name || is_some (row_at bytes_cmp (λ row. row.owner) c.owners o)

-- the rows of an owner, if it is known
abbrev pub slice_of : Content → Bytes → Option Slice
slice_of c o = if knows c o then Some (c.rows o) else None

-- the content without owners, units and rows
abbrev pub empty_content : Content
empty_content = record { owners = []; units = []; rows = empty_slice }

-- ---- after changes, in order

-- the owners after these changes
abbrev pub after_owners : List Change → List OwnerRow → List OwnerRow
after_owners [] rows = rows
after_owners (Owner row ∷ changes) rows = after_owners changes (put_row bytes_cmp (λ row. row.owner) rows row)
after_owners (_ ∷ changes) rows = after_owners changes rows

-- the units after these changes
abbrev pub after_units : List Change → List UnitRow → List UnitRow
after_units [] rows = rows
after_units (UnitAdded row ∷ changes) rows = after_units changes (put_row bytes_cmp (λ row. row.unit) rows row)
after_units (_ ∷ changes) rows = after_units changes rows

-- the content after these changes: each owner's slice takes the rows that are put for it
abbrev pub content_after : List Change → Content → Content
content_after changes c = record {
  owners = after_owners changes c.owners;
  units = after_units changes c.units;
  rows = λ o. after_changes changes (c.rows o);
}

-- ---- what a caller must ensure

-- The rows of each owner keep the rules of a slice.
abbrev pub ContentKeepsRules : Content → Type 0
ContentKeepsRules c = (o : Bytes) → KeepsRules (c.rows o)

-- The change puts a row of a known owner, whose rows keep the rules with it.
abbrev pub ChangeFits : Content → Change → Type 0
ChangeFits c (Put o row) = (knows c o ≡ true) × KeepsRules (with_row (c.rows o) row)
ChangeFits c _ = Unit {0}

-- Each change fits the content after those before it.
abbrev pub AllChangesFit : Content → List Change → Type 0
AllChangesFit c [] = Unit {0}
AllChangesFit c (change ∷ changes) = ChangeFits c change × AllChangesFit (content_after (change ∷ []) c) changes

-- Each row is put for a known owner.
abbrev pub PutsToKnown : Content → List Change → Type 0
PutsToKnown c [] = Unit {0}
PutsToKnown c (Put o row ∷ changes) = (knows c o ≡ true) × PutsToKnown c changes
PutsToKnown c (_ ∷ changes) = PutsToKnown c changes
