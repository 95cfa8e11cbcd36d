-- What a cache remembers of a content.
use Rattle.std.specs.Prelude.{◌≡◌, Bool, true, false, Option, Some, None, IfSome, List, [], All, Contains, Vec}
use Rattle.toll_keep.specs.Common.{Global, Bytes, same_bytes, Slice, empty_slice, list_any, Change, Put}
use Rattle.toll_keep.specs.Content.{Content, content_after, knows, slice_of}
use Rattle.toll_keep.specs.Graphs.{AreGraphsFor, AreGraphsOf}
use Rattle.toll_keep.specs.Meaning.{Meaning, OverContent}
use Rattle.toll_keep.specs.declared.cache.Cache.{Cache}

-- Each slice is the one that its owner has in the content.
abbrev pub AreOf : Content → List Slice → Type 0
AreOf c slices = All (λ s. slice_of c s.owner ≡ Some s) slices

-- An owner that isn't known has no rows.
abbrev pub OnlyKnownHaveRows : Content → Type 0
OnlyKnownHaveRows c = (o : Bytes) → knows c o ≡ false → c.rows o ≡ empty_slice o

-- If these are slices of the content, and only known owners have rows in it, then P holds.
abbrev pub IfOf : Content → List Slice → Type 0 → Type 0
IfOf c slices P = AreOf c slices → OnlyKnownHaveRows c → P

-- If rows are remembered, they are these.
abbrev pub AreCachedRows : {R : Type 0} → List R → Option (Vec R Global) → Type 0
AreCachedRows rows known = IfSome known (λ v. v.items ≡ rows)

-- Everything in the cache is of the content: its slices, its owners, its units and the graphs of its owners.
pub record IsCacheOf (c : Content) (r : Cache) : Type 0 where
  pub slices : AreOf c r.slices.items
  pub owners : AreCachedRows c.owners r.owners
  pub units : AreCachedRows c.units r.units
  pub graphs : AreGraphsOf c r.graphs.items

-- ---- for some owners

-- Each slice of one of these owners is the one that it has in the content.
abbrev pub AreFor : List Bytes → Content → List Slice → Type 0
AreFor os c slices = All (λ s. Contains os s.owner → slice_of c s.owner ≡ Some s) slices

-- One of these owners that isn't known has no rows.
abbrev pub OnlyKnownFor : List Bytes → Content → Type 0
OnlyKnownFor os c = (o : Bytes) → Contains os o → knows c o ≡ false → c.rows o ≡ empty_slice o

-- If the slices of these owners are of the content, and only known ones of them have rows in it, then P holds.
abbrev pub IfFor : List Bytes → Content → List Slice → Type 0 → Type 0
IfFor os c slices P = AreFor os c slices → OnlyKnownFor os c → P

-- The owners and the units in the cache are of the content, and so are the slices and graphs of these owners.
pub record IsCacheFor (os : List Bytes) (c : Content) (r : Cache) : Type 0 where
  pub slices : AreFor os c r.slices.items
  pub owners : AreCachedRows c.owners r.owners
  pub units : AreCachedRows c.units r.units
  pub graphs : AreGraphsFor os c r.graphs.items

-- ---- changes

-- The cache is empty.
pub record IsNothing (r : Cache) : Type 0 where
  pub slices : r.slices.items ≡ []
  pub owners : r.owners ≡ None
  pub units : r.units ≡ None
  pub graphs : r.graphs.items ≡ []

-- whether the change adds an owner or a unit
abbrev pub is_addition : Change → Bool
is_addition (Put o row) = false
is_addition _ = true

-- whether the change puts a row of this owner
abbrev pub is_put_for : Bytes → Change → Bool
is_put_for o (Put of row) = same_bytes of o
is_put_for o _ = false

-- If the changes add no owner and no unit, the slices are of the content with them, and the keep is honest after the call, then P holds of
-- that content.
abbrev pub OverPut : {K : Type 0} → Meaning K → (old new : K) → List Change → List Slice → (Content → Type 0) → Type 0
OverPut meaning old new changes slices P = OverContent meaning old new (λ c. list_any is_addition changes ≡ false → AreOf (content_after changes c) slices → P (content_after changes c))

-- The same for slices of these owners.
abbrev pub OverPutFor : {K : Type 0} → List Bytes → Meaning K → (old new : K) → List Change → List Slice → (Content → Type 0) → Type 0
OverPutFor os meaning old new changes slices P = OverContent meaning old new (λ c. list_any is_addition changes ≡ false → AreFor os (content_after changes c) slices → P (content_after changes c))
