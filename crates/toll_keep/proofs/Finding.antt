-- The result of a search through rows, as a fact of their keys.
use Rattle.std.proofs.Common.{◌≡◌, Bool, true, false, not, cond, Option, Some, None, is_some, List, [], ◌∷◌, refl, sym, ap, subst, ◌∙◌, inl, inr, find, Contains}
use Rattle.toll_keep.proofs.Common.{false≢true, IsTotalOrder, is_eq, ordering_reverse, Ordering, row_at, IsInKeyOrder, is_some_where, none_or, Contains-none, Contains-here, Contains-later, Contains-cases}
use Rattle.std.proofs.lemmas.Cmp.{tied_itself}
use Rattle.toll_trace.proofs.Drawn.{row_of_member}

find_passed_over : {X : Type 0} (b : Bool) (x : X) (rest : Option X) → cond b (Some x) rest ≡ None → (b ≡ false) × (rest ≡ None)
find_passed_over true x rest h = absurd (false≢true (ap is_some (sym h)))
find_passed_over false x rest h = (refl, h)

pub find_member : {X : Type 0} (p : X → Bool) (xs : List X) (x : X) → find p xs ≡ Some x → Contains xs x × (p x ≡ true)
find_member p [] x h = absurd (false≢true (ap is_some h))
find_member p (y ∷ xs) x h =
    elim (p y) as (λ b. p y ≡ b → cond b (Some y) (find p xs) ≡ Some x → Contains (y ∷ xs) x × (p x ≡ true)) [
      | true ↦ λ e is. let same : y ≡ x = cc in (subst (Contains (y ∷ xs)) same (Contains-here y xs), ap p (sym same) ∙ e)
      | false ↦ λ e later. let found = find_member p xs x later in (Contains-later y xs x found.0, found.1)
    ] refl h

pub found_one : {X : Type 0} (p : X → Bool) (xs : List X) (x : X) → Contains xs x → p x ≡ true → is_some (find p xs) ≡ true
found_one p [] x there passes = absurd (Contains-none x there)
found_one p (y ∷ xs) x there passes =
    elim (p y) as (λ b. p y ≡ b → is_some (cond b (Some y) (find p xs)) ≡ true) [
      | true ↦ λ is. refl
      | false ↦ λ is. elim (Contains-cases y xs x there) [
        | inl same ↦ absurd (false≢true (sym is ∙ ap p same ∙ passes))
        | inr later ↦ found_one p xs x later passes
      ]
    ] refl

module _ {K R : Type 0} (cmp : K → K → Ordering) (key : R → K) (p : R → Bool) where
  -- If the search finds none, no row passes.
  pub none_found : (rows : List R) (k : K) → find p rows ≡ None → none_or (λ row. not (p row)) (row_at cmp key rows k) ≡ true
  unfolding row_at
  none_found [] k h = refl
  none_found (row ∷ rows) k h =
      let parts = find_passed_over (p row) row (find p rows) h in
      elim (is_eq (cmp k (key row))) as (λ b. none_or (λ r. not (p r)) (cond b (Some row) (row_at cmp key rows k)) ≡ true) [
        | true ↦ ap not parts.0
        | false ↦ none_found rows k parts.1
      ]

  -- The row that the search finds is the one with its key, and passes.
  pub one_found : IsTotalOrder cmp → (rows : List R) (row : R) → IsInKeyOrder cmp key rows → find p rows ≡ Some row → is_some_where p (row_at cmp key rows (key row)) ≡ true
  one_found total rows row order h =
      let found = find_member p rows row h in
      ap (is_some_where p) (row_of_member cmp key (tied_itself total) (λ a b lt. total.antisymm b a ∙ ap ordering_reverse lt) rows row order found.0) ∙ found.1
