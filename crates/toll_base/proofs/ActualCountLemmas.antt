-- What a row put among the counts of actuals does to the counts.
use Rattle.std.proofs.Common.{◌≡◌, ℕ, ◌+◌, ◌≤◌, ◌<◌, ◌^◌, length, Bool, true, false, ◌&&◌, ◌==◌, cond, List, Option, Some, None, is_some, refl, sym, ap, ◌∙◌, arith, eq-eqb}
use Rattle.toll_base.proofs.Common.{nat_list_cmp_total, option_map_or, Bytes, same_bytes, bytes_cmp, row_at, put_row, is_actual_of, is_some_where}
use Rattle.toll_base.specs.Keys.{batch_cmp}
use Rattle.toll_base.specs.ActualCounts.{actual_count_at, count_of, AreCountsOf, HasKnown}
use Rattle.toll_base.specs.declared.movement.MoveRow.{MoveRow}
use Rattle.toll_base.specs.declared.actual_count.ActualCount.{ActualCount}
use Rattle.toll_base.proofs.Bools.{both, and_is}
use Rattle.toll_base.proofs.KeyOrder.{row_at-put_row, none_of}
use Rattle.toll_base.proofs.PutRules.{found_counted, count-le-length, count-put_row}
use Rattle.toll_base.proofs.Texts.{same_batch, same_bytes-exact, same_bytes-refl, nat_eq-exact, batch_cmp_total}
use Rattle.toll_base.specs.declared.capacity.TheConstants.{MOST_MOVEMENTS}

count_by : (b : Bool) (new : ActualCount) (old : Option ActualCount) → option_map_or (λ row. row.count) (cond b (Some new) old) 0 ≡ cond b new.count (option_map_or (λ row. row.count) old 0)
count_by true new old = refl
count_by false new old = refl

is_some_by : (b : Bool) (new : ActualCount) (old : Option ActualCount) → is_some old ≡ true → is_some (cond b (Some new) old) ≡ true
is_some_by true new old h = refl
is_some_by false new old h = h

actual_more_at : (b : Bool) (new here at : ℕ) → (b ≡ true → here ≡ at) → new ≡ at + 1 → cond b new here ≡ cond b 1 0 + here
actual_more_at true new here at is more = let same = is refl in omega arith
actual_more_at false new here at is more = omega arith

less_by : (b : Bool) (new here at : ℕ) → (b ≡ true → here ≡ at) → new + 1 ≡ at → cond b 1 0 + cond b new here ≡ here
less_by true new here at is less = let same = is refl in omega arith
less_by false new here at is less = omega arith

same_by : (b : Bool) (new here at : ℕ) → (b ≡ true → here ≡ at) → new ≡ at → cond b new here ≡ here
same_by true new here at is same = same ∙ sym (is refl)
same_by false new here at is same = refl

some_by : (b : Bool) (new : ActualCount) (old : Option ActualCount) → (b ≡ true → is_some old ≡ true) → is_some (cond b (Some new) old) ≡ is_some old
some_by true new old is = sym (is refl)
some_by false new old is = refl

-- what holds of a batch holds of one that is the same
pub same_along : (P : Bytes → ℕ → Type 0) (o o' : Bytes) (n n' : ℕ) → (same_bytes o o' && n == n') ≡ true → P o' n' → P o n
same_along P o o' n n' h at =
    let parts = both (same_bytes o o') (n == n') h in
    coe 1 0 (i. P (same_bytes-exact o o' parts.0 i) (nat_eq-exact n n' parts.1 i)) at

-- a batch without a row has the count 0
pub no_row : (rows : List ActualCount) (o : Bytes) (n : ℕ) → is_some (actual_count_at rows o n) ≡ false → 0 ≡ count_of rows o n
no_row rows o n h = sym (ap (λ row. option_map_or (λ r. r.count) row 0) (none_of _ h))

-- an actual is of its own batch
pub own_batch : (order : Bytes) (number : ℕ) → (same_bytes order order && number == number) ≡ true
own_batch order number = and_is _ _ (same_bytes-refl order) (eq-eqb number number refl)

module _ (rows : List ActualCount) (new : ActualCount) where
  -- the rows with the new one put among them
  abbrev pub put_count : List ActualCount
  put_count = put_row batch_cmp (λ row. (row.order, row.number)) rows new

  -- the new row counts this batch
  abbrev pub is_for : Bytes → ℕ → Bool
  is_for o n = same_bytes o new.order && n == new.number

  pub actual_count_at-put : (o : Bytes) (n : ℕ) → actual_count_at put_count o n ≡ cond (is_for o n) (Some new) (actual_count_at rows o n)
  actual_count_at-put o n =
      row_at-put_row batch_cmp batch_cmp_total (λ row. (row.order, row.number)) rows new (o, n)
      ∙ ap (λ b. cond b (Some new) (actual_count_at rows o n)) (same_batch (o, n) (new.order, new.number))

  pub count-put : (o : Bytes) (n : ℕ) → count_of put_count o n ≡ cond (is_for o n) new.count (count_of rows o n)
  count-put o n = ap (λ row. option_map_or (λ r. r.count) row 0) (actual_count_at-put o n) ∙ count_by (is_for o n) new (actual_count_at rows o n)

  pub still_counted : (o : Bytes) (n : ℕ) → is_some (actual_count_at rows o n) ≡ true → is_some (actual_count_at put_count o n) ≡ true
  still_counted o n h = ap is_some (actual_count_at-put o n) ∙ is_some_by (is_for o n) new (actual_count_at rows o n) h

  pub now_counted : (o : Bytes) (n : ℕ) → is_for o n ≡ true → is_some (actual_count_at put_count o n) ≡ true
  now_counted o n h = ap is_some (actual_count_at-put o n) ∙ ap (λ b. is_some (cond b (Some new) (actual_count_at rows o n))) h

  here_is : (o : Bytes) (n : ℕ) → is_for o n ≡ true → count_of rows o n ≡ count_of rows new.order new.number
  here_is o n h = same_along (λ o' n'. count_of rows o' n' ≡ count_of rows new.order new.number) o new.order n new.number h refl

  -- the new row counts one more than there was
  pub one_more : new.count ≡ count_of rows new.order new.number + 1 → (o : Bytes) (n : ℕ) → count_of put_count o n ≡ cond (is_for o n) 1 0 + count_of rows o n
  one_more more o n = count-put o n ∙ actual_more_at (is_for o n) _ _ _ (here_is o n) more

  -- or one less
  pub one_less : new.count + 1 ≡ count_of rows new.order new.number → (o : Bytes) (n : ℕ) → cond (is_for o n) 1 0 + count_of put_count o n ≡ count_of rows o n
  one_less less o n = ap (λ k. cond (is_for o n) 1 0 + k) (count-put o n) ∙ less_by (is_for o n) _ _ _ (here_is o n) less

  -- or as many
  pub as_many : new.count ≡ count_of rows new.order new.number → (o : Bytes) (n : ℕ) → count_of put_count o n ≡ count_of rows o n
  as_many same o n = count-put o n ∙ same_by (is_for o n) _ _ _ (here_is o n) same

  -- the same batches have rows, where the new row's batch has one
  pub same_batches : is_some (actual_count_at rows new.order new.number) ≡ true → (o : Bytes) (n : ℕ) → is_some (actual_count_at put_count o n) ≡ is_some (actual_count_at rows o n)
  same_batches there o n = ap is_some (actual_count_at-put o n) ∙ some_by (is_for o n) new (actual_count_at rows o n) (λ h. same_along (λ o' n'. is_some (actual_count_at rows o' n') ≡ true) o new.order n new.number h there)

-- a batch with a count has a row
pub has_row : (rows : List ActualCount) (o : Bytes) (n : ℕ) → 1 ≤ count_of rows o n → is_some (actual_count_at rows o n) ≡ true
has_row rows o n some =
    elim (actual_count_at rows o n) as (λ row. 1 ≤ option_map_or (λ r. r.count) row 0 → is_some row ≡ true) [
      | None ↦ λ h. absurd (omega arith)
      | Some row ↦ λ h. refl
    ] some

module _ (moves : List MoveRow) (rows : List ActualCount) (counts : AreCountsOf rows moves) where
  -- a known movement is counted
  pub has_known : (key : Bytes) (known : Option MoveRow) → known ≡ row_at bytes_cmp (λ row. row.key) moves key → HasKnown rows known
  has_known key None is = tt
  has_known key (Some known) is =
      let some : (o : Bytes) (n : ℕ) → is_actual_of o n known.what ≡ true → 1 ≤ count_of rows o n =
      λ o n h. rw (counts o n) (found_counted bytes_cmp nat_list_cmp_total (λ row. row.key) (λ row. is_actual_of o n row.what) moves key known (sym is) h) in
      ((λ o n h. has_row rows o n (some o n h)), some)

  pub few_counted : length moves ≤ MOST_MOVEMENTS → (o : Bytes) (n : ℕ) → count_of rows o n < 2 ^ 32
  few_counted few o n = let most = count-le-length (λ row. is_actual_of o n row.what) moves in rw (counts o n) (omega arith)

  -- the counts after a movement was put are those of the movements then
  pub counts_after : (row : MoveRow) (after : List ActualCount) →
      ((o : Bytes) (n : ℕ) → cond (is_some_where (λ known. is_actual_of o n known.what) (row_at bytes_cmp (λ row. row.key) moves row.key)) 1 0 + count_of after o n ≡ cond (is_actual_of o n row.what) 1 0 + count_of rows o n) →
      AreCountsOf after (put_row bytes_cmp (λ row. row.key) moves row)
  counts_after row after recounted o n =
      let put = count-put_row bytes_cmp nat_list_cmp_total (λ row. row.key) (λ row. is_actual_of o n row.what) moves row in
      omega (arith, recounted o n, put, counts o n)
