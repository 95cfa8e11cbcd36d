-- The rows that slices in a list have of each owner, and the effect of a put.
use Rattle.std.proofs.Common.{◌≡◌, ℕ, zero, suc, ◌+◌, ◌<◌, Bool, true, false, not, cond, nat_lt, Option, Some, None, is_some, List, [], ◌∷◌, ◌++◌, length, get_or, set, refl, sym, ap, subst, ◌∙◌, arith, position}
use Rattle.toll_base.proofs.KeyOrder.{cond_swap}
pub use Rattle.toll_base.proofs.SliceFits.{owner-with_row}
use Rattle.toll_keep.proofs.Common.{false≢true, AllByRecursion, position_or_len, or_left, or_right, list_any-append, list_any_at, position-Some, Bytes, same_bytes, Slice, empty_slice, with_row, after_change, Put, same_bytes-exact, same_bytes-refl, same_bytes-symm, is_slice_of, rows_in, put_slice, IsOneEach, has_slice}
use Rattle.std.proofs.lemmas.Bool.Decides.{nat_tests}
use Rattle.toll_base.specs.declared.rows.Row.{Row}

-- ---- the rows of an owner are its own

pub owner-rows_in : (slices : List Slice) (o : Bytes) → (rows_in slices o).owner ≡ o
owner-rows_in [] o = refl
owner-rows_in (s ∷ slices) o =
    elim (is_slice_of o s) as (λ b. is_slice_of o s ≡ b → (cond b s (rows_in slices o)).owner ≡ o) [
      | true ↦ λ e. same_bytes-exact s.owner o e
      | false ↦ λ e. owner-rows_in slices o
    ] refl

-- ---- after a put

sliced_twice : {X : Type 0} (a b : Bool) (new old rest : X) → b ≡ a → cond a new rest ≡ cond a new (cond b old rest)
sliced_twice true b new old rest same = refl
sliced_twice false b new old rest same = rw same refl

-- The owner of the put slice has its rows, and each other keeps those that it had.
pub rows_in-put : (slices : List Slice) (new : Slice) (o : Bytes) → rows_in (put_slice slices new) o ≡ cond (is_slice_of o new) new (rows_in slices o)
rows_in-put [] new o = refl
rows_in-put (s ∷ slices) new o =
    elim (is_slice_of new.owner s) as (λ b. is_slice_of new.owner s ≡ b → rows_in (cond b (new ∷ slices) (s ∷ put_slice slices new)) o ≡ cond (is_slice_of o new) new (cond (is_slice_of o s) s (rows_in slices o))) [
      | true ↦ λ e. sliced_twice (is_slice_of o new) (is_slice_of o s) new s (rows_in slices o) (ap (λ owner. same_bytes owner o) (same_bytes-exact s.owner new.owner e))
      | false ↦ λ e. ap (cond (is_slice_of o s) s) (rows_in-put slices new o)
          ∙ cond_swap (is_slice_of o s) (is_slice_of o new) s new (rows_in slices o)
          (λ of_s of_new. let same : s.owner ≡ new.owner = same_bytes-exact s.owner o of_s ∙ sym (same_bytes-exact new.owner o of_new) in
          false≢true (sym e ∙ ap (λ owner. same_bytes owner new.owner) same ∙ same_bytes-refl new.owner))
    ] refl

-- ---- no owner gets a second slice

all_others : (o : Bytes) (slices : List Slice) (new : Slice) → is_slice_of o new ≡ false → AllByRecursion (λ other. is_slice_of o other ≡ false) slices → AllByRecursion (λ other. is_slice_of o other ≡ false) (put_slice slices new)
all_others o [] new differs all = (differs, tt)
all_others o (s ∷ slices) new differs all =
    elim (is_slice_of new.owner s) as (λ b. AllByRecursion (λ other. is_slice_of o other ≡ false) (cond b (new ∷ slices) (s ∷ put_slice slices new))) [
      | true ↦ (differs, all.1)
      | false ↦ (all.0, all_others o slices new differs all.1)
    ]

pub one_each-put : (slices : List Slice) (new : Slice) → IsOneEach slices → IsOneEach (put_slice slices new)
one_each-put [] new one = (tt, tt)
one_each-put (s ∷ slices) new one =
    elim (is_slice_of new.owner s) as (λ b. is_slice_of new.owner s ≡ b → IsOneEach (cond b (new ∷ slices) (s ∷ put_slice slices new))) [
      | true ↦ λ e. (subst (λ owner. AllByRecursion (λ other. is_slice_of owner other ≡ false) slices) (same_bytes-exact s.owner new.owner e) one.0, one.1)
      | false ↦ λ e. (all_others s.owner slices new (same_bytes-symm new.owner s.owner ∙ e) one.0, one_each-put slices new one.1)
    ] refl

-- ---- where an owner's slice is

record IsFirstAt (o : Bytes) (slices : List Slice) (at : ℕ) (d : Slice) : Type 0 where
  inside : at < length slices
  there : is_slice_of o (get_or slices at d) ≡ true
  before : (k : ℕ) → k < at → is_slice_of o (get_or slices k d) ≡ false

first_at : (slices : List Slice) (o : Bytes) (at : ℕ) (d : Slice) → position (is_slice_of o) slices ≡ Some at → IsFirstAt o slices at d
first_at slices o at d h = let found = position-Some (is_slice_of o) slices at d h in record { inside = found.0; there = found.1; before = found.2 }

next_at : (s : Slice) (slices : List Slice) (o : Bytes) (at : ℕ) (d : Slice) → IsFirstAt o (s ∷ slices) (suc at) d → IsFirstAt o slices at d
next_at s slices o at d first = record { inside = (let lt = first.inside in omega arith); there = first.there; before = λ k lt. first.before (suc k) (omega arith) }

set_first : (slices : List Slice) (new : Slice) (at : ℕ) (d : Slice) → IsFirstAt new.owner slices at d → set slices at new ≡ put_slice slices new
set_first [] new at d first = let lt = first.inside in absurd (omega arith)
set_first (s ∷ slices) new zero d first = rw first.there refl
set_first (s ∷ slices) new (suc at) d first = let differs : is_slice_of new.owner s ≡ false = first.before 0 (omega arith) in rw differs (ap (λ xs. s ∷ xs) (set_first slices new at d (next_at s slices new.owner at d first)))

found_first : (slices : List Slice) (o : Bytes) (at : ℕ) (d : Slice) → IsFirstAt o slices at d → get_or slices at d ≡ rows_in slices o
found_first [] o at d first = let lt = first.inside in absurd (omega arith)
found_first (s ∷ slices) o zero d first = let is : is_slice_of o s ≡ true = first.there in rw is refl
found_first (s ∷ slices) o (suc at) d first = let differs : is_slice_of o s ≡ false = first.before 0 (omega arith) in rw differs (found_first slices o at d (next_at s slices o at d first))

-- Writing at this place is a put.
pub set_there : (slices : List Slice) (new : Slice) (at : ℕ) → position (is_slice_of new.owner) slices ≡ Some at → set slices at new ≡ put_slice slices new
set_there slices new at h = set_first slices new at new (first_at slices new.owner at new h)

-- The slice at this place has the owner's rows.
pub found_there : (slices : List Slice) (o : Bytes) (at : ℕ) (d : Slice) → position (is_slice_of o) slices ≡ Some at → get_or slices at d ≡ rows_in slices o
found_there slices o at d h = found_first slices o at d (first_at slices o at d h)

-- ---- an owner without a slice

sliced_not_found : {X : Type 0} (b : Bool) (x : X) → cond b (Some x) None ≡ None → b ≡ false
sliced_not_found true x h = absurd (false≢true (ap is_some (sym h)))
sliced_not_found false x h = refl

none_in_front : (b : Bool) (n len : ℕ) → nat_lt (cond (not b) (1 + n) 0) (1 + len) ≡ false → (b ≡ false) × (nat_lt n len ≡ false)
none_in_front true n len h = absurd (grind (arith, nat_tests))
none_in_front false n len h = (refl, grind (arith, nat_tests))

absent_next : (p : Slice → Bool) (s : Slice) (slices : List Slice) → position p (s ∷ slices) ≡ None → (p s ≡ false) × (position p slices ≡ None)
absent_next p s slices h =
    let test = sliced_not_found _ _ h in
    let parts = none_in_front (p s) (position_or_len p slices) (length slices) (subst (λ n. nat_lt (position_or_len p (s ∷ slices)) n ≡ false) (omega arith) test) in
    let tail : nat_lt (position_or_len p slices) (length slices) ≡ false = parts.1 in
    (parts.0, rw tail refl)

-- Appending the slice is a put.
pub added_there : (slices : List Slice) (new : Slice) → position (is_slice_of new.owner) slices ≡ None → slices ++ new ∷ [] ≡ put_slice slices new
added_there [] new h = refl
added_there (s ∷ slices) new h =
    let parts = absent_next (is_slice_of new.owner) s slices h in
    let differs : is_slice_of new.owner s ≡ false = parts.0 in
    rw differs (ap (λ xs. s ∷ xs) (added_there slices new parts.1))

-- The owner has no rows.
pub absent_there : (slices : List Slice) (o : Bytes) → position (is_slice_of o) slices ≡ None → rows_in slices o ≡ empty_slice o
absent_there [] o h = refl
absent_there (s ∷ slices) o h =
    let parts = absent_next (is_slice_of o) s slices h in
    let differs : is_slice_of o s ≡ false = parts.0 in
    rw differs (absent_there slices o parts.1)

-- ---- a row that is put for an owner

module _ (slices : List Slice) (owner : Bytes) (row : Row) where
  -- the owner's rows with this one
  abbrev more_rows : Slice
  more_rows = with_row (rows_in slices owner) row

  sliced_own_rows : more_rows.owner ≡ owner
  sliced_own_rows = owner-with_row (rows_in slices owner) row ∙ owner-rows_in slices owner

  -- The owner's slice takes the row.
  pub row_there : (at : ℕ) (old new : Slice) → position (is_slice_of owner) slices ≡ Some at → old ≡ get_or slices at old → new ≡ with_row old row → set slices at new ≡ put_slice slices more_rows
  row_there at old new h is made =
      ap (set slices at) (made ∙ ap (λ s. with_row s row) (is ∙ found_there slices owner at old h))
      ∙ set_there slices more_rows at (subst (λ o. position (is_slice_of o) slices ≡ Some at) (sym sliced_own_rows) h)

  -- The owner gets a slice with the row.
  pub row_added : (new : Slice) → position (is_slice_of owner) slices ≡ None → new ≡ with_row (empty_slice owner) row → slices ++ new ∷ [] ≡ put_slice slices more_rows
  row_added new h made =
      ap (λ s. slices ++ s ∷ []) (made ∙ ap (λ s. with_row s row) (sym (absent_there slices owner h)))
      ∙ added_there slices more_rows (subst (λ o. position (is_slice_of o) slices ≡ None) (sym sliced_own_rows) h)

  -- Each owner's rows are those after the change.
  pub rows_after : (o : Bytes) → rows_in (put_slice slices more_rows) o ≡ after_change (Put owner row) (rows_in slices o)
  rows_after o =
      rows_in-put slices more_rows o
      ∙ ap (λ name. cond (same_bytes name o) more_rows (rows_in slices o)) sliced_own_rows
      ∙ chosen (same_bytes owner o) refl
      ∙ ap (λ name. cond (same_bytes owner name) (with_row (rows_in slices o) row) (rows_in slices o)) (sym (owner-rows_in slices o))
    where
      chosen : (b : Bool) → same_bytes owner o ≡ b → cond b more_rows (rows_in slices o) ≡ cond b (with_row (rows_in slices o) row) (rows_in slices o)
      chosen true e = ap (λ name. with_row (rows_in slices name) row) (same_bytes-exact owner o e)
      chosen false e = refl

-- ---- which owners have a slice

-- If a search finds a slice of the owner, there is one.
pub has_found : (slices : List Slice) (o : Bytes) (at : Option ℕ) → at ≡ position (is_slice_of o) slices → is_some at ≡ true → has_slice slices o ≡ true
has_found slices o None is some = absurd (false≢true some)
has_found slices o (Some at) is some = let found = position-Some (is_slice_of o) slices at (empty_slice []) (sym is) in list_any_at (is_slice_of o) slices at (empty_slice []) found.0 found.1

-- One more slice adds its owner to those that have one.
pub has_more : (slices : List Slice) (s : Slice) (o : Bytes) → has_slice slices o ≡ true → has_slice (slices ++ s ∷ []) o ≡ true
has_more slices s o has = list_any-append (is_slice_of o) slices (s ∷ []) ∙ or_left _ _ has

pub has_new : (slices : List Slice) (s : Slice) (o : Bytes) → s.owner ≡ o → has_slice (slices ++ s ∷ []) o ≡ true
has_new slices s o own = list_any-append (is_slice_of o) slices (s ∷ []) ∙ or_right _ _ (or_left _ _ (ap (λ p. same_bytes p o) own ∙ same_bytes-refl o))
