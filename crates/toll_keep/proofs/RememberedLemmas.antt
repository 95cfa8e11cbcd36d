-- The cache: looked up, added to, and after changes.
use Rattle.std.proofs.Common.{◌≡◌, ℕ, Bool, true, false, ◌||◌, cond, map, Some, None, List, [], ◌∷◌, ◌++◌, get_or, refl, sym, ap, subst, ◌∙◌, position, Contains}
use Rattle.toll_keep.proofs.Common.{list_any, All-get_or, All-push, All-weaker, All-map, position-Some, false≢true, Bytes, same_bytes, Slice, empty_slice, with_row, after_change, after_changes, Change, Owner, Unit as UnitAdded, Put, OwnerRow, UnitRow, same_bytes-exact, Content, knows, slice_of, content_after, after_owners, after_units, ChangeFits, AllChangesFit, AreFor, AreOf, OnlyKnownFor, OnlyKnownHaveRows, PutsOutside, is_addition, is_put_for, is_slice_of}
use Rattle.toll_keep.proofs.Changed.{own_after, known_after}

-- ---- looked up

-- The slice at this place is the owner's.
pub remembered_there : (c : Content) (slices : List Slice) (o : Bytes) (at : ℕ) (d : Slice) → position (is_slice_of o) slices ≡ Some at → AreOf c slices → slice_of c o ≡ Some (get_or slices at d)
remembered_there c slices o at d h all =
    let found = position-Some (is_slice_of o) slices at d h in
    subst (λ owner. slice_of c owner ≡ Some (get_or slices at d)) (same_bytes-exact (get_or slices at d).owner o found.1) (All-get_or (λ s. slice_of c s.owner ≡ Some s) slices at d found.0 all)

pub found_owner : (slices : List Slice) (o : Bytes) (at : ℕ) (d : Slice) → position (is_slice_of o) slices ≡ Some at → (get_or slices at d).owner ≡ o
found_owner slices o at d h = same_bytes-exact (get_or slices at d).owner o (position-Some (is_slice_of o) slices at d h).1

-- So it is for owners of whom this is one.
pub remembered_for : (os : List Bytes) (c : Content) (slices : List Slice) (o : Bytes) (at : ℕ) (d : Slice) → position (is_slice_of o) slices ≡ Some at → Contains os o → AreFor os c slices → slice_of c o ≡ Some (get_or slices at d)
remembered_for os c slices o at d h own all =
    let found = position-Some (is_slice_of o) slices at d h in
    let is : (get_or slices at d).owner ≡ o = same_bytes-exact (get_or slices at d).owner o found.1 in
    subst (λ owner. slice_of c owner ≡ Some (get_or slices at d)) is (all at d found.0 (subst (Contains os) (sym is) own))

-- A slice that a content has is the owner's rows.
pub cached_known_slice : (known : Bool) (rows s : Slice) → cond known (Some rows) None ≡ Some s → (known ≡ true) × (rows ≡ s)
cached_known_slice true rows s e = (refl, cc)
cached_known_slice false rows s e = absurd (cc e)

-- ---- added

-- One more slice of the content was added, if there was room.
pub perhaps_more : (c : Content) (slices new : List Slice) (s : Slice) (o : Bytes) (pushed : Bool) → s.owner ≡ o → slice_of c o ≡ Some s → new ≡ cond pushed (slices ++ s ∷ []) slices → AreOf c slices → AreOf c new
perhaps_more c slices new s o true own is more all = subst (AreOf c) (sym more) (All-push (λ s. slice_of c s.owner ≡ Some s) slices s all (ap (slice_of c) own ∙ is))
perhaps_more c slices new s o false own is more all = subst (AreOf c) (sym more) all

pub perhaps_more_for : (os : List Bytes) (c : Content) (slices new : List Slice) (s : Slice) (o : Bytes) (pushed : Bool) → s.owner ≡ o → (Contains os o → slice_of c o ≡ Some s) → new ≡ cond pushed (slices ++ s ∷ []) slices → AreFor os c slices → AreFor os c new
perhaps_more_for os c slices new s o true own is more all = subst (AreFor os c) (sym more) (All-push (λ s. Contains os s.owner → slice_of c s.owner ≡ Some s) slices s all (λ there. ap (slice_of c) own ∙ is (subst (Contains os) own there)))
perhaps_more_for os c slices new s o false own is more all = subst (AreFor os c) (sym more) all

-- ---- after changes

slice_after_one : (change : Change) (c : Content) (s : Slice) → slice_of c s.owner ≡ Some s → slice_of (content_after (change ∷ []) c) (after_change change s).owner ≡ Some (after_change change s)
slice_after_one change c s e =
    let parts = cached_known_slice (knows c s.owner) (c.rows s.owner) s e in
    let known : knows (content_after (change ∷ []) c) s.owner ≡ true = known_after change c s.owner parts.0 in
    subst (λ o. cond (knows (content_after (change ∷ []) c) o) (Some (after_change change (c.rows o))) None ≡ Some (after_change change s)) (sym (own_after change s))
    (subst (λ b. cond b (Some (after_change change (c.rows s.owner))) None ≡ Some (after_change change s)) (sym known) (ap (λ t. Some (after_change change t)) parts.1))

after_each : (changes : List Change) (c : Content) (s : Slice) → slice_of c s.owner ≡ Some s → slice_of (content_after changes c) (after_changes changes s).owner ≡ Some (after_changes changes s)
after_each [] c s e = e
after_each (Owner row ∷ changes) c s e = after_each changes (content_after (Owner row ∷ []) c) s (slice_after_one (Owner row) c s e)
after_each (UnitAdded row ∷ changes) c s e = after_each changes (content_after (UnitAdded row ∷ []) c) s (slice_after_one (UnitAdded row) c s e)
after_each (Put o row ∷ changes) c s e = after_each changes (content_after (Put o row ∷ []) c) (after_change (Put o row) s) (slice_after_one (Put o row) c s e)

-- Changes leave a slice to its owner.
pub owner_after : (changes : List Change) (s : Slice) → (after_changes changes s).owner ≡ s.owner
owner_after [] s = refl
owner_after (change ∷ changes) s = owner_after changes (after_change change s) ∙ own_after change s

-- Changes that put no row of its owner leave a slice as it was.
pub none_put : (changes : List Change) (s : Slice) → list_any (is_put_for s.owner) changes ≡ false → after_changes changes s ≡ s
none_put [] s none = refl
none_put (Owner row ∷ changes) s none = none_put changes s none
none_put (UnitAdded row ∷ changes) s none = none_put changes s none
none_put (Put o row ∷ changes) s none = go (same_bytes o s.owner) (none_put changes s) none
  where
    go : (b : Bool) → (list_any (is_put_for s.owner) changes ≡ false → after_changes changes s ≡ s) → (b || list_any (is_put_for s.owner) changes) ≡ false → after_changes changes (cond b (with_row s row) s) ≡ s
    go true same none = absurd (cc none)
    go false same none = same none

-- Slices that follow the changes are slices of the content after them.
pub all_after : (changes : List Change) (c : Content) (slices : List Slice) → AreOf c slices → AreOf (content_after changes c) (map (after_changes changes) slices)
all_after changes c slices all =
    All-map (λ s. slice_of (content_after changes c) s.owner ≡ Some s) (after_changes changes) slices
    (All-weaker (λ s. slice_of c s.owner ≡ Some s) (λ s. slice_of (content_after changes c) (after_changes changes s).owner ≡ Some (after_changes changes s)) (after_each changes c) slices all)

pub all_after_for : (os : List Bytes) (changes : List Change) (c : Content) (slices : List Slice) → AreFor os c slices → AreFor os (content_after changes c) (map (after_changes changes) slices)
all_after_for os changes c slices all =
    All-map (λ s. Contains os s.owner → slice_of (content_after changes c) s.owner ≡ Some s) (after_changes changes) slices
    (All-weaker (λ s. Contains os s.owner → slice_of c s.owner ≡ Some s) (λ s. Contains os (after_changes changes s).owner → slice_of (content_after changes c) (after_changes changes s).owner ≡ Some (after_changes changes s))
    (λ s is own. after_each changes c s (is (subst (Contains os) (owner_after changes s) own))) slices all)

-- ---- changes of other owners

-- Changes of others put no row of these owners.
none_put_for : (os : List Bytes) (changes : List Change) (o : Bytes) → PutsOutside os changes → Contains os o → list_any (is_put_for o) changes ≡ false
none_put_for os [] o outside own = refl
none_put_for os (Put p row ∷ changes) o outside own = go (same_bytes p o) refl (none_put_for os changes o outside.1 own)
  where
    go : (b : Bool) → same_bytes p o ≡ b → list_any (is_put_for o) changes ≡ false → (b || list_any (is_put_for o) changes) ≡ false
    go true e later = absurd (outside.0 (subst (Contains os) (sym (same_bytes-exact p o e)) own))
    go false e later = later
none_put_for os (Owner row ∷ changes) o outside own = absurd outside
none_put_for os (UnitAdded row ∷ changes) o outside own = absurd outside

pub rows_stay : (os : List Bytes) (changes : List Change) (s : Slice) → PutsOutside os changes → Contains os s.owner → after_changes changes s ≡ s
rows_stay os changes s outside own = none_put changes s (none_put_for os changes s.owner outside own)

pub slices_stay : (os : List Bytes) (changes : List Change) (c : Content) (slices : List Slice) → PutsOutside os changes → AreFor os c slices → AreFor os c (map (after_changes changes) slices)
slices_stay os changes c slices outside all =
    All-map (λ s. Contains os s.owner → slice_of c s.owner ≡ Some s) (after_changes changes) slices
    (All-weaker (λ s. Contains os s.owner → slice_of c s.owner ≡ Some s) (λ s. Contains os (after_changes changes s).owner → slice_of c (after_changes changes s).owner ≡ Some (after_changes changes s)) stay slices all)
  where
    stay : (s : Slice) → (Contains os s.owner → slice_of c s.owner ≡ Some s) → Contains os (after_changes changes s).owner → slice_of c (after_changes changes s).owner ≡ Some (after_changes changes s)
    stay s is own =
        let there = subst (Contains os) (owner_after changes s) own in
        subst (λ t. slice_of c t.owner ≡ Some t) (sym (rows_stay os changes s outside there)) (is there)

-- ---- owners that aren't known

unknown_before_change : (change : Change) (c : Content) (o : Bytes) → knows (content_after (change ∷ []) c) o ≡ false → knows c o ≡ false
unknown_before_change change c o h = go (knows c o) refl
  where
    go : (b : Bool) → knows c o ≡ b → b ≡ false
    go true e = absurd (false≢true (sym h ∙ known_after change c o e))
    go false e = refl

-- A change that fits leaves an owner that isn't known without rows; changes do.
only_known_one : (change : Change) (c : Content) (o : Bytes) → ChangeFits c change → (knows c o ≡ false → c.rows o ≡ empty_slice o) → knows (content_after (change ∷ []) c) o ≡ false → (content_after (change ∷ []) c).rows o ≡ empty_slice o
only_known_one (Owner row) c o fits only h = only (unknown_before_change (Owner row) c o h)
only_known_one (UnitAdded row) c o fits only h = only h
only_known_one (Put p row) c o fits only h = ap (after_change (Put p row)) none ∙ go (same_bytes p o) refl
  where
    none : c.rows o ≡ empty_slice o
    none = only h

    go : (b : Bool) → same_bytes p o ≡ b → cond b (with_row (empty_slice o) row) (empty_slice o) ≡ empty_slice o
    go true e = absurd (false≢true (sym h ∙ ap (knows c) (sym (same_bytes-exact p o e)) ∙ fits.0))
    go false e = refl

only_known_each : (changes : List Change) (c : Content) (o : Bytes) → AllChangesFit c changes → (knows c o ≡ false → c.rows o ≡ empty_slice o) → knows (content_after changes c) o ≡ false → (content_after changes c).rows o ≡ empty_slice o
only_known_each [] c o fits only = only
only_known_each (Owner row ∷ changes) c o fits only = only_known_each changes (content_after (Owner row ∷ []) c) o fits.1 (only_known_one (Owner row) c o fits.0 only)
only_known_each (UnitAdded row ∷ changes) c o fits only = only_known_each changes (content_after (UnitAdded row ∷ []) c) o fits.1 (only_known_one (UnitAdded row) c o fits.0 only)
only_known_each (Put p row ∷ changes) c o fits only = only_known_each changes (content_after (Put p row ∷ []) c) o fits.1 (only_known_one (Put p row) c o fits.0 only)

-- Changes that fit put no rows for an owner that isn't known.
pub only_known_after : (changes : List Change) (c : Content) → AllChangesFit c changes → OnlyKnownHaveRows c → OnlyKnownHaveRows (content_after changes c)
only_known_after changes c fits only = λ o. only_known_each changes c o fits (only o)

pub only_known_for : (os : List Bytes) (changes : List Change) (c : Content) → AllChangesFit c changes → OnlyKnownFor os c → OnlyKnownFor os (content_after changes c)
only_known_for os changes c fits only = λ o own. only_known_each changes c o fits (only o own)

pub unknown_if_none : (known : Bool) (rows : Slice) → cond known (Some rows) None ≡ None → known ≡ false
unknown_if_none true rows e = absurd (cc e)
unknown_if_none false rows e = refl

-- ---- owners and units

-- If no owner is added, the owners stay.
pub owners_stay : (changes : List Change) (rows : List OwnerRow) → list_any is_addition changes ≡ false → after_owners changes rows ≡ rows
owners_stay [] rows none = refl
owners_stay (Owner row ∷ changes) rows none = absurd (false≢true (sym none))
owners_stay (UnitAdded row ∷ changes) rows none = absurd (false≢true (sym none))
owners_stay (Put o row ∷ changes) rows none = owners_stay changes rows none

pub units_stay : (changes : List Change) (rows : List UnitRow) → list_any is_addition changes ≡ false → after_units changes rows ≡ rows
units_stay [] rows none = refl
units_stay (Owner row ∷ changes) rows none = absurd (false≢true (sym none))
units_stay (UnitAdded row ∷ changes) rows none = absurd (false≢true (sym none))
units_stay (Put o row ∷ changes) rows none = units_stay changes rows none
