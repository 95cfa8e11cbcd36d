-- Slices in a list, and the rows that they have of each owner.
use Rattle.std.specs.Prelude.{◌≡◌, Bool, false, if◌then◌else◌, List, [], ◌∷◌}
use Rattle.toll_keep.specs.Common.{AllByRecursion, list_any, Bytes, same_bytes, Slice, empty_slice, OwnerRow, UnitRow}
use Rattle.toll_keep.specs.Content.{Content}
use Rattle.toll_keep.specs.declared.mem_keep.MemKeep.TheInside.{Inside}

-- whether the slice is of this owner
abbrev pub is_slice_of : Bytes → Slice → Bool
is_slice_of o s = same_bytes s.owner o

-- the owner's rows: its first slice, or an empty one
abbrev pub rows_in : List Slice → Bytes → Slice
rows_in [] o = empty_slice o
rows_in (s ∷ slices) o = if is_slice_of o s then s else rows_in slices o

-- the slices with this one instead of the first of its owner, or added
abbrev pub put_slice : List Slice → Slice → List Slice
put_slice [] new = new ∷ []
put_slice (s ∷ slices) new = if is_slice_of new.owner s then new ∷ slices else s ∷ put_slice slices new

-- No owner has two slices.
abbrev pub IsOneEach : List Slice → Type 0
IsOneEach [] = Unit {0}
IsOneEach (s ∷ slices) = AllByRecursion (λ other. is_slice_of s.owner other ≡ false) slices × IsOneEach slices

-- whether some slice is of this owner
abbrev pub has_slice : List Slice → Bytes → Bool
has_slice slices o = list_any (is_slice_of o) slices

-- ---- a keep in memory

-- what a keep in memory has
pub record Kept : Type 0 where
  pub owners : List OwnerRow
  pub units : List UnitRow
  pub slices : List Slice

-- the content that it has
abbrev pub content_of : Kept → Content
content_of k = record { owners = k.owners; units = k.units; rows = rows_in k.slices }

abbrev pub kept_view : Inside → Kept
kept_view k = record { owners = k.owners; units = k.units; slices = k.slices.items }
