-- Staged changes, and what was read of the keep with them.
use Rattle.std.proofs.Common.{◌≡◌, Bool, true, false, ◌||◌, cond, Some, None, List, [], ◌∷◌, ◌++◌, Result, Ok, Err, OnOk, inl, inr, refl, sym, ap, subst, ◌∙◌, ◌≢◌, is_some, map}
use Rattle.toll_keep.proofs.Common.{list_any, list_any-append, Bytes, bytes_cmp, same_bytes, after_changes, Slice, row_at, house_name, Change, Owner, Unit as UnitAdded, Put, OwnerRow, UnitRow, Content, AllChangesFit, slice_of, content_after, after_owners, after_units, IsReading, AreOf, is_addition, or_from, Meaning, HaveRead, IsContentKept, KeepFault}
use Rattle.toll_keep.specs.StagedChanges.{IsReadThrough, ReadsThrough}
use Rattle.toll_keep.specs.declared.staged_changes.StagedChanges.{StagedChanges}
use Rattle.toll_keep.proofs.Calls.{Rests, rests, reads_then, read_ok}
use Rattle.toll_keep.proofs.Contents.{same_content}
use Rattle.toll_keep.proofs.Outcomes.{on_err_always}
use Rattle.toll_keep.proofs.RememberedLemmas.{all_after, owners_stay}

-- ---- changes after others

owners_behind : (first more : List Change) (rows : List OwnerRow) → after_owners (first ++ more) rows ≡ after_owners more (after_owners first rows)
owners_behind [] more rows = refl
owners_behind (Owner row ∷ first) more rows = owners_behind first more (after_owners (Owner row ∷ []) rows)
owners_behind (UnitAdded row ∷ first) more rows = owners_behind first more rows
owners_behind (Put o row ∷ first) more rows = owners_behind first more rows

units_behind : (first more : List Change) (rows : List UnitRow) → after_units (first ++ more) rows ≡ after_units more (after_units first rows)
units_behind [] more rows = refl
units_behind (Owner row ∷ first) more rows = units_behind first more rows
units_behind (UnitAdded row ∷ first) more rows = units_behind first more (after_units (UnitAdded row ∷ []) rows)
units_behind (Put o row ∷ first) more rows = units_behind first more rows

rows_behind : (first more : List Change) (s : Slice) → after_changes (first ++ more) s ≡ after_changes more (after_changes first s)
rows_behind [] more s = refl
rows_behind (change ∷ first) more s = rows_behind first more (after_changes (change ∷ []) s)

pub after_behind : (first more : List Change) (c : Content) → content_after (first ++ more) c ≡ content_after more (content_after first c)
after_behind first more c = same_content (content_after (first ++ more) c) (content_after more (content_after first c)) (owners_behind first more c.owners) (units_behind first more c.units) (λ o. rows_behind first more (c.rows o))

-- Changes that fit, and more that fit after them, fit together.
pub fits_behind : (first more : List Change) (c : Content) → AllChangesFit c first → AllChangesFit (content_after first c) more → AllChangesFit c (first ++ more)
fits_behind [] more c fits then = then
fits_behind (Owner row ∷ first) more c fits then = (fits.0, fits_behind first more (content_after (Owner row ∷ []) c) fits.1 then)
fits_behind (UnitAdded row ∷ first) more c fits then = (fits.0, fits_behind first more (content_after (UnitAdded row ∷ []) c) fits.1 then)
fits_behind (Put o row ∷ first) more c fits then = (fits.0, fits_behind first more (content_after (Put o row ∷ []) c) fits.1 then)

pub none_added : (first more : List Change) → list_any is_addition first ≡ false → list_any is_addition more ≡ false → list_any is_addition (first ++ more) ≡ false
none_added first more none none_more = list_any-append is_addition first more ∙ or_from (list_any is_addition first) (list_any is_addition more) none none_more

-- Slices that follow more changes are slices of the content after them.
pub slices_behind : (first more : List Change) (c : Content) (slices : List Slice) → AreOf (content_after first c) slices → AreOf (content_after (first ++ more) c) (map (after_changes more) slices)
slices_behind first more c slices all = subst (λ content. AreOf content (map (after_changes more) slices)) (sym (after_behind first more c)) (all_after more (content_after first c) slices all)

-- ---- an owner's slice with the changes

known_so : (changes : List Change) (c : Content) (o : Bytes) → list_any is_addition changes ≡ false
    → slice_of (content_after changes c) o ≡ cond (same_bytes o house_name || is_some (row_at bytes_cmp (λ row. row.owner) c.owners o)) (Some (after_changes changes (c.rows o))) None
known_so changes c o none = ap (λ rows. cond (same_bytes o house_name || is_some (row_at bytes_cmp (λ (row : OwnerRow). row.owner) rows o)) (Some (after_changes changes (c.rows o))) None) (owners_stay changes c.owners none)

some_so : (b : Bool) (f : Slice → Slice) (rows s : Slice) → cond b (Some rows) None ≡ Some s → cond b (Some (f rows)) None ≡ Some (f s)
some_so true f rows s is = let same : rows ≡ s = cc is in ap (λ t. Some (f t)) same
some_so false f rows s is = absurd (cc is)

none_so : (b : Bool) (f : Slice → Slice) (rows : Slice) → cond b (Some rows) None ≡ None → cond b (Some (f rows)) None ≡ None
none_so true f rows is = absurd (cc is)
none_so false f rows is = refl

pub some_after : (changes : List Change) (c : Content) (o : Bytes) (s : Slice) → list_any is_addition changes ≡ false → slice_of c o ≡ Some s → slice_of (content_after changes c) o ≡ Some (after_changes changes s)
some_after changes c o s none is = known_so changes c o none ∙ some_so _ (after_changes changes) (c.rows o) s is

pub none_after : (changes : List Change) (c : Content) (o : Bytes) → list_any is_addition changes ≡ false → slice_of c o ≡ None → slice_of (content_after changes c) o ≡ None
none_after changes c o none is = known_so changes c o none ∙ none_so _ (after_changes changes) (c.rows o) is

-- ---- reading calls, the first or a later one

module _ {K : Type 0} (meaning : Meaning K) (settled : Rests meaning) (old new : K) (o : StagedChanges) where
  reads_on : {X : Type 0} (first : K) (r : Result X KeepFault) → IsReadThrough meaning first old o → ((o.slices.items ≢ [] → HaveRead meaning old old) → IsReading meaning old new r) → IsReading meaning first new r
  reads_on first r through reading = elim through [
    | inl none ↦ subst (λ k. IsReading meaning k new r) none.0 (reading (λ some. absurd (some none.1)))
    | inr have ↦ reads_then meaning first old new tt r have (reading (λ some. rests meaning settled old have.goes.closes have.goes.shown))
  ]

  answered_on : {X : Type 0} (first : K) (r : Result X KeepFault) → IsReading meaning first new r → OnOk r (HaveRead meaning first new)
  answered_on first (Ok x) reading = read_ok meaning first new x tt reading.goes reading.keeps
  answered_on first (Err fault) reading = tt

  pub reads_through : {X : Type 0} (r : Result X KeepFault) → ((o.slices.items ≢ [] → HaveRead meaning old old) → IsReading meaning old new r) → IsContentKept meaning old new → ReadsThrough meaning old new o r
  reads_through r reading kept = record {
    answered = λ first through. answered_on first r (reads_on first r through reading);
    failed = λ first through. on_err_always r (reads_on first r through reading);
    kept = kept;
  }

-- Reading with staged changes that have read nothing yet is reading the keep alone.
pub reads_alone : {K X : Type 0} (meaning : Meaning K) (old new : K) (o : StagedChanges) (r : Result X KeepFault) → o.slices.items ≡ [] → ReadsThrough meaning old new o r → IsReading meaning old new r
reads_alone meaning old new o (Ok x) none reads = let have = reads.answered old (inl (refl, none)) in read_ok meaning old new tt x have.goes have.keeps
reads_alone meaning old new o (Err fault) none reads = reads.failed old (inl (refl, none))
