-- What a put does to a count of rows, to a test of each row, and to what is there.
use Rattle.std.proofs.Common.{◌≡◌, ℕ, ◌+◌, ◌≤◌, Bool, true, false, ◌||◌, List, [], ◌∷◌, length, Option, Some, None, is_some, cond, nat_lt, refl, sym, ap, subst, ◌∙◌, arith}
use Rattle.toll_base.proofs.Common.{false≢true, IsTotalOrder, count_by, is_eq, is_lt, Ordering, tied_itself, nat_tests, none-some, row_at, replace_row, insert_row, put_row, has_room, count, is_some_where, none_or}
use Rattle.std.proofs.lemmas.List.Recursion.{is_count_by}
use Rattle.toll_base.proofs.KeyOrder.{row_at-put_row, length-put_row, none_of}

room_by : (found : Bool) (n most : ℕ) → n ≤ most → (found || nat_lt n most) ≡ true → cond found 0 1 + n ≤ most
room_by true n most le h = omega arith
room_by false n most le h = grind (arith, nat_tests)

room_by_back : (found : Bool) (n most : ℕ) → cond found 0 1 + n ≤ most → (found || nat_lt n most) ≡ true
room_by_back true n most le = refl
room_by_back false n most le = grind (arith, nat_tests)

pub none_or_more : {X : Type 0} (p q : X → Bool) (o : Option X) → ((x : X) → p x ≡ true → q x ≡ true) → none_or p o ≡ true → none_or q o ≡ true
none_or_more p q None more h = refl
none_or_more p q (Some x) more h = more x h

none_or_put : {X : Type 0} (p : X → Bool) (b : Bool) (new : X) (o : Option X) → p new ≡ true → none_or p o ≡ true → none_or p (cond b (Some new) o) ≡ true
none_or_put p true new o h old = h
none_or_put p false new o h old = old

is_some_put : {X : Type 0} (b : Bool) (new : X) (o : Option X) → is_some o ≡ true → is_some (cond b (Some new) o) ≡ true
is_some_put true new o h = refl
is_some_put false new o h = h

cond_one_more : (b : Bool) (n : ℕ) → cond b 1 0 + n ≡ cond b (1 + n) n
cond_one_more true n = refl
cond_one_more false n = omega arith

pub count-is : {X : Type 0} (p : X → Bool) (xs : List X) → count p xs ≡ count_by p xs
count-is p xs = is_count_by (count p) p refl (λ x xs. cond_one_more (p x) (count p xs)) xs

module _ {K R : Type 0} (cmp : K → K → Ordering) (o : IsTotalOrder cmp) (key : R → K) where
  pub rule_room : (most : ℕ) (rows : List R) (row : R) → length rows ≤ most → has_room cmp key most rows row ≡ true → length (put_row cmp key rows row) ≤ most
  rule_room most rows row le h = let len = length-put_row cmp o key rows row in rw len (room_by (is_some (row_at cmp key rows (key row))) (length rows) most le h)

  pub room_back : (most : ℕ) (rows : List R) (row : R) → length (put_row cmp key rows row) ≤ most → has_room cmp key most rows row ≡ true
  room_back most rows row le = room_by_back (is_some (row_at cmp key rows (key row))) (length rows) most (subst (λ n. n ≤ most) (length-put_row cmp o key rows row) le)

  -- the row that was put is there
  pub put_there : (rows : List R) (row : R) → row_at cmp key (put_row cmp key rows row) (key row) ≡ Some row
  put_there rows row = row_at-put_row cmp o key rows row (key row) ∙ ap (λ r. cond (is_eq r) (Some row) (row_at cmp key rows (key row))) (tied_itself o (key row))

  -- what was there stays
  pub still_there : (rows : List R) (row : R) (k : K) → is_some (row_at cmp key rows k) ≡ true → is_some (row_at cmp key (put_row cmp key rows row) k) ≡ true
  still_there rows row k h = ap is_some (row_at-put_row cmp o key rows row k) ∙ is_some_put (is_eq (cmp k (key row))) row (row_at cmp key rows k) h

  -- each row passes where each did, and the new one does
  pub each_put : (p : R → Bool) (rows : List R) (row : R) → ((k : K) → none_or p (row_at cmp key rows k) ≡ true) → p row ≡ true → (k : K) → none_or p (row_at cmp key (put_row cmp key rows row) k) ≡ true
  each_put p rows row each h k = ap (none_or p) (row_at-put_row cmp o key rows row k) ∙ none_or_put p (is_eq (cmp k (key row))) row (row_at cmp key rows k) h (each k)

  pub new_of_each : (p : R → Bool) (rows : List R) (row : R) → ((k : K) → none_or p (row_at cmp key (put_row cmp key rows row) k) ≡ true) → p row ≡ true
  new_of_each p rows row each = ap (none_or p) (sym (put_there rows row)) ∙ each (key row)

  -- ---- counts
  count_replaced : (p : R → Bool) (rows : List R) (row : R) → is_some (row_at cmp key rows (key row)) ≡ true → cond (is_some_where p (row_at cmp key rows (key row))) 1 0 + count p (replace_row cmp key rows row) ≡ cond (p row) 1 0 + count p rows
  unfolding row_at
  count_replaced p [] row h = absurd (false≢true h)
  count_replaced p (x ∷ xs) row h =
      elim (is_eq (cmp (key row) (key x))) as (λ b. is_some (cond b (Some x) (row_at cmp key xs (key row))) ≡ true → cond (is_some_where p (cond b (Some x) (row_at cmp key xs (key row)))) 1 0 + count p (cond b (row ∷ xs) (x ∷ replace_row cmp key xs row)) ≡ cond (p row) 1 0 + (cond (p x) 1 0 + count p xs)) [
        | true ↦ λ h. omega arith
        | false ↦ λ h. omega (arith, count_replaced p xs row h)
      ] h

  count_inserted : (p : R → Bool) (rows : List R) (row : R) → count p (insert_row cmp key rows row) ≡ cond (p row) 1 0 + count p rows
  count_inserted p [] row = refl
  count_inserted p (x ∷ xs) row =
      elim (is_lt (cmp (key row) (key x))) as (λ b. count p (cond b (row ∷ x ∷ xs) (x ∷ insert_row cmp key xs row)) ≡ cond (p row) 1 0 + (cond (p x) 1 0 + count p xs)) [
        | true ↦ refl
        | false ↦ omega (arith, count_inserted p xs row)
      ]

  pub count-put_row : (p : R → Bool) (rows : List R) (row : R) → cond (is_some_where p (row_at cmp key rows (key row))) 1 0 + count p (put_row cmp key rows row) ≡ cond (p row) 1 0 + count p rows
  unfolding row_at put_row
  count-put_row p rows row =
      elim (is_some (row_at cmp key rows (key row))) as (λ b. is_some (row_at cmp key rows (key row)) ≡ b → cond (is_some_where p (row_at cmp key rows (key row))) 1 0 + count p (cond b (replace_row cmp key rows row) (insert_row cmp key rows row)) ≡ cond (p row) 1 0 + count p rows) [
        | true ↦ λ found. count_replaced p rows row found
        | false ↦ λ absent. rw (none_of _ absent) (omega (arith, count_inserted p rows row))
      ] refl

  -- ---- what is found is counted
  pub found_counted : (p : R → Bool) (rows : List R) (k : K) (row : R) → row_at cmp key rows k ≡ Some row → p row ≡ true → 1 ≤ count p rows
  unfolding row_at
  found_counted p [] k row found passes = absurd (none-some _ found)
  found_counted p (x ∷ xs) k row found passes =
      elim (is_eq (cmp k (key x))) as (λ b. cond b (Some x) (row_at cmp key xs k) ≡ Some row → 1 ≤ cond (p x) 1 0 + count p xs) [
        | true ↦ λ is. let first : p x ≡ true = ap (is_some_where p) is ∙ passes in rw first (omega arith)
        | false ↦ λ is. let later = found_counted p xs k row is passes in omega arith
      ] found

-- no more pass a test than there are
pub count-le-length : {X : Type 0} (p : X → Bool) (xs : List X) → count p xs ≤ length xs
count-le-length p [] = omega arith
count-le-length p (x ∷ xs) =
    elim (p x) as (λ b. cond b 1 0 + count p xs ≤ length (x ∷ xs)) [
      | true ↦ let rest = count-le-length p xs in omega arith
      | false ↦ let rest = count-le-length p xs in omega arith
    ]
