-- The tables of a slice after a row was put.
use Rattle.std.proofs.Common.{◌≡◌, ℕ, suc, ◌+◌, Bool, true, false, ◌||◌, cond, Some, is_some, List, [], ◌∷◌, length, refl, sym, ap, ◌∙◌, arith}
use Rattle.toll_base.proofs.Common.{false≢true, IsTotalOrder, list_any, is_eq, is_lt, Ordering, row_at, replace_row, insert_row, put_row, count, is_some_where}
use Rattle.toll_base.proofs.KeyOrder.{length-put_row, none_of}
use Rattle.toll_base.proofs.PutRules.{count-put_row}

one_row_more : (found : Bool) (n : ℕ) → found ≡ false → cond found 0 1 + n ≡ suc n
one_row_more true n h = absurd (false≢true (sym h))
one_row_more false n h = omega arith

as_many_rows : (found : Bool) (n : ℕ) → found ≡ true → cond found 0 1 + n ≡ n
as_many_rows true n h = omega arith
as_many_rows false n h = absurd (false≢true h)

or_swapped : (a b rest : Bool) → (a || (b || rest)) ≡ (b || (a || rest))
or_swapped true true rest = refl
or_swapped true false rest = refl
or_swapped false b rest = refl

module _ {K R : Type 0} (cmp : K → K → Ordering) (o : IsTotalOrder cmp) (key : R → K) (rows : List R) (row : R) where
  -- of a new key there is a row more
  pub length-new : is_some (row_at cmp key rows (key row)) ≡ false → length (put_row cmp key rows row) ≡ suc (length rows)
  length-new absent = length-put_row cmp o key rows row ∙ one_row_more (is_some (row_at cmp key rows (key row))) (length rows) absent

  -- of a known one there are as many
  pub length-known : is_some (row_at cmp key rows (key row)) ≡ true → length (put_row cmp key rows row) ≡ length rows
  length-known found = length-put_row cmp o key rows row ∙ as_many_rows (is_some (row_at cmp key rows (key row))) (length rows) found

  -- of a new key, one more passes where the row does
  pub count-new : (p : R → Bool) → is_some (row_at cmp key rows (key row)) ≡ false → count p (put_row cmp key rows row) ≡ cond (p row) (suc (count p rows)) (count p rows)
  count-new p absent =
      by_parts (is_some_where p (row_at cmp key rows (key row))) (p row) _ _ (ap (is_some_where p) (none_of _ absent)) (count-put_row cmp o key p rows row)
    where
      by_parts : (old new : Bool) (n m : ℕ) → old ≡ false → cond old 1 0 + n ≡ cond new 1 0 + m → n ≡ cond new (suc m) m
      by_parts true new n m h is = absurd (false≢true (sym h))
      by_parts false true n m h is = omega arith
      by_parts false false n m h is = omega arith

  -- of a known one as many pass, where the row passes as the one before it did
  pub count-known : (p : R → Bool) (old : R) → row_at cmp key rows (key row) ≡ Some old → p old ≡ p row → count p (put_row cmp key rows row) ≡ count p rows
  count-known p old found same =
      by_parts (is_some_where p (row_at cmp key rows (key row))) (p row) _ _ (ap (is_some_where p) found ∙ same) (count-put_row cmp o key p rows row)
    where
      by_parts : (b c : Bool) (n m : ℕ) → b ≡ c → cond b 1 0 + n ≡ cond c 1 0 + m → n ≡ m
      by_parts true true n m h is = omega arith
      by_parts true false n m h is = absurd (false≢true (sym h))
      by_parts false true n m h is = absurd (false≢true h)
      by_parts false false n m h is = omega arith

any_inserted : {K R : Type 0} (cmp : K → K → Ordering) (key : R → K) (p : R → Bool) (rows : List R) (row : R) → list_any p (insert_row cmp key rows row) ≡ (p row || list_any p rows)
any_inserted cmp key p [] row = refl
any_inserted cmp key p (x ∷ xs) row =
    elim (is_lt (cmp (key row) (key x))) as (λ b. list_any p (cond b (row ∷ x ∷ xs) (x ∷ insert_row cmp key xs row)) ≡ (p row || (p x || list_any p xs))) [
      | true ↦ refl
      | false ↦ ap (λ b. p x || b) (any_inserted cmp key p xs row) ∙ or_swapped (p x) (p row) (list_any p xs)
    ]

any_replaced : {K R : Type 0} (cmp : K → K → Ordering) (key : R → K) (p : R → Bool) (rows : List R) (row old : R) → row_at cmp key rows (key row) ≡ Some old → p old ≡ p row → list_any p (replace_row cmp key rows row) ≡ list_any p rows
unfolding row_at
any_replaced cmp key p [] row old found same = refl
any_replaced cmp key p (x ∷ xs) row old found same =
    elim (is_eq (cmp (key row) (key x))) as (λ b. cond b (Some x) (row_at cmp key xs (key row)) ≡ Some old → list_any p (cond b (row ∷ xs) (x ∷ replace_row cmp key xs row)) ≡ (p x || list_any p xs)) [
      | true ↦ λ is. let e : x ≡ old = (cc) in ap (λ b. b || list_any p xs) (sym same ∙ ap p (sym e))
      | false ↦ λ is. ap (λ b. p x || b) (any_replaced cmp key p xs row old is same)
    ] found

module _ {K R : Type 0} (cmp : K → K → Ordering) (key : R → K) (p : R → Bool) (rows : List R) (row : R) where
  -- of a new key, some row passes where this one does or one did before
  pub any-new : is_some (row_at cmp key rows (key row)) ≡ false → list_any p (put_row cmp key rows row) ≡ (p row || list_any p rows)
  unfolding put_row
  any-new absent = ap (λ b. list_any p (cond b (replace_row cmp key rows row) (insert_row cmp key rows row))) absent ∙ any_inserted cmp key p rows row

  -- of a known one, some row passes where one did before
  pub any-known : (old : R) → row_at cmp key rows (key row) ≡ Some old → p old ≡ p row → list_any p (put_row cmp key rows row) ≡ list_any p rows
  unfolding put_row
  any-known old found same = ap (λ b. list_any p (cond b (replace_row cmp key rows row) (insert_row cmp key rows row))) (ap is_some found) ∙ any_replaced cmp key p rows row old found same
