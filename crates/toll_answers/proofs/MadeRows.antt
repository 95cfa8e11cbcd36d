-- Rows in key order, and what is made of those of which something is made.
use Rattle.std.proofs.Common.{◌≡◌, Bool, true, false, cond, Option, Some, None, List, [], ◌∷◌, map, refl, sym, ap, subst, ◌∙◌}
use Rattle.toll_answers.proofs.Common.{option_and_then, AllByRecursion, cons_option, filter_map, IsStrictlySortedBy, is_eq, Less, Equal}
use Rattle.std.specs.Cmp.{IsTotalOrder, Equal-is}
use Rattle.std.specs.declared.cmp.Ordering.{Ordering}
use Rattle.toll_base.specs.Table.{row_at, IsInKeyOrder}

module _ {K R L : Type 0} (cmp : K → K → Ordering) (o : IsTotalOrder cmp) (key : R → K) (make : R → Option L) (made_key : L → K) (same : (row : R) (made : L) → make row ≡ Some made → made_key made ≡ key row) where
  all_made : (P : K → Type 0) (rows : List R) → AllByRecursion P (map key rows) → AllByRecursion P (map made_key (filter_map make rows))
  all_made P [] all = tt
  all_made P (x ∷ xs) all =
      elim (make x) as (λ made. make x ≡ made → AllByRecursion P (map made_key (cons_option made (filter_map make xs)))) [
        | None ↦ λ is. all_made P xs all.1
        | Some made ↦ λ is. (subst P (sym (same x made is)) all.0, all_made P xs all.1)
      ] refl

  -- they are in the same order
  pub made_ordered : (rows : List R) → IsInKeyOrder cmp key rows → IsInKeyOrder cmp made_key (filter_map make rows)
  unfolding IsStrictlySortedBy
  made_ordered [] ordered = tt
  made_ordered (x ∷ xs) ordered =
      elim (make x) as (λ made. make x ≡ made → IsStrictlySortedBy cmp (map made_key (cons_option made (filter_map make xs)))) [
        | None ↦ λ is. made_ordered xs ordered.1
        | Some made ↦ λ is. (subst (λ k. AllByRecursion (λ y. cmp k y ≡ Less) (map made_key (filter_map make xs))) (sym (same x made is)) (all_made (λ y. cmp (key x) y ≡ Less) xs ordered.0), made_ordered xs ordered.1)
      ] refl

  -- a key that ties with one below all of them is not among them
  none_tied : (k l : K) (rows : List R) → cmp k l ≡ Equal → AllByRecursion (λ y. cmp l y ≡ Less) (map key rows) → row_at cmp key rows k ≡ None
  unfolding row_at
  none_tied k l [] tied above = refl
  none_tied k l (x ∷ xs) tied above = ap (λ r. cond (is_eq r) (Some x) (row_at cmp key xs k)) (o.congr k l (key x) tied ∙ above.0) ∙ none_tied k l xs tied above.1

  made_passed_over : (b : Bool) (rest : Option L) → (b ≡ true → rest ≡ None) → rest ≡ cond b None rest
  made_passed_over true rest none = none refl
  made_passed_over false rest none = refl

  made_first : (b : Bool) (x : R) (rest : Option R) → cond b (make x) (option_and_then make rest) ≡ option_and_then make (cond b (Some x) rest)
  made_first true x rest = refl
  made_first false x rest = refl

  -- at a key stands what is made of its row
  pub made_at : (rows : List R) (k : K) → IsInKeyOrder cmp key rows → row_at cmp made_key (filter_map make rows) k ≡ option_and_then make (row_at cmp key rows k)
  unfolding row_at IsStrictlySortedBy
  made_at [] k ordered = refl
  made_at (x ∷ xs) k ordered =
      elim (make x) as (λ made. make x ≡ made → row_at cmp made_key (cons_option made (filter_map make xs)) k ≡ cond (is_eq (cmp k (key x))) made (row_at cmp made_key (filter_map make xs) k)) [
        | None ↦ λ is. made_passed_over (is_eq (cmp k (key x))) _ (λ tied. made_at xs k ordered.1 ∙ ap (option_and_then make) (none_tied k (key x) xs ((Equal-is _).0 tied) ordered.0))
        | Some made ↦ λ is. ap (λ l. cond (is_eq (cmp k l)) (Some made) (row_at cmp made_key (filter_map make xs) k)) (same x made is)
      ] refl
      ∙ ap (cond (is_eq (cmp k (key x))) (make x)) (made_at xs k ordered.1)
      ∙ made_first (is_eq (cmp k (key x))) x (row_at cmp key xs k)
